-- The bytes before the data, put piece by piece.
use Rattle.std.specs.Prelude.{ℕ, zero, suc, ◌+◌, ◌-◌, ◌*◌, ◌≤◌, ◌<◌, Bool, true, false, ◌≡◌, refl, take, drop}
use mathlib.Core.List.{List, [], ◌∷◌, ◌++◌, append_assoc, append-nil}
use Rattle.std.proofs.Common.{sym, ap, ◌∙◌, subst, add-one, take-suc, length-take-le}
use native.Mathlib.Omega.{arith}
use Rattle.std.proofs.Math.ListN.{length}
use Rattle.std.proofs.lemmas.List.{drop-append-le}
use Rattle.lists.specs.Bytes.{bytes}
use Rattle.lists.specs.Four.{at}
use Rattle.lists.specs.Table.{table, length-table}
use Rattle.model_texts.specs.Printed.{decimal}
use Rattle.npy_files.specs.Writes.{low_bytes, followed, listed, closing, tuple_out, dict_out, head_bytes, start_out, head_out, front_out}
use Rattle.sheet_text.specs.Decimal.{decimal-most}
use Rattle.sheet_text.specs.Put.{Put, put-none, put_then}

-- four numbers of 64 at most, of which the first v are the shape
pub record Shaped (v : ℕ) (n : List ℕ) : Type 0 where
  pub few : v ≤ 4
  pub long : length n ≡ 4
  pub small : (k : ℕ) → at n k ≤ 64

-- a text of m bytes at most was put
pub record PutShort (m place : ℕ) (xs old new : List ℕ) (next : ℕ) : Type 0 where
  pub put : Put place xs old new next
  pub most : next ≤ place + m

pub record PutFront (newer : Bool) (s old new : List ℕ) (next : ℕ) : Type 0 where
  pub put : Put 0 (front_out newer s) old new next
  pub is : next ≡ 128

pub two_digits : (x : ℕ) → x ≤ 64 → length (decimal x) ≤ 2
two_digits x h = decimal-most 2 x (omega arith) (omega arith) (omega arith)

-- ---- numbers

followed_snoc : (s : List ℕ) (y : ℕ) → followed (s ++ (y ∷ [])) ≡ followed s ++ (44 ∷ 32 ∷ decimal y)
unfolding followed
followed_snoc [] y = ap (λ (l : List ℕ). 44 ∷ 32 ∷ l) (append-nil (decimal y))
followed_snoc (x ∷ s) y =
    ap (λ (l : List ℕ). 44 ∷ 32 ∷ l) (ap (λ (l : List ℕ). decimal x ++ l) (followed_snoc s y)
    ∙ sym (append_assoc (decimal x) (followed s) (44 ∷ 32 ∷ decimal y)))

-- the first number, and those behind it
listed-parts : (v : ℕ) (n : List ℕ) → 1 ≤ v → 1 ≤ length n → listed (take v n) ≡ decimal (at n 0) ++ followed (drop 1 (take v n))
unfolding listed
listed-parts zero n h l = absurd (omega arith)
listed-parts (suc v) [] h l = absurd (omega arith)
listed-parts (suc v) (x ∷ n) h l = refl

-- after k numbers, the first of them aside
pub record PutRest (v : ℕ) (n : List ℕ) (place : ℕ) (old new : List ℕ) (next k : ℕ) : Type 0 where
  pub some : 1 ≤ k
  pub most : k ≤ v
  pub put : Put place (followed (drop 1 (take k n))) old new next
  pub room : next + 4 ≤ place + 4 * k

module _ {v : ℕ} {n : List ℕ} (h : Shaped v n) (place : ℕ) (old : List ℕ) where
  one-alone : followed (drop 1 (take 1 n)) ≡ []
  unfolding followed
  one-alone = let m : 0 < length n = omega (arith, h.long) in rw (take-suc n 0 0 m)

  pub rest-none : 1 ≤ v → place ≤ length old → PutRest v n place old old place 1
  rest-none l m = record { some = omega arith; most = l; put = rw one-alone (put-none place old m); room = omega arith }

  module _ {new : List ℕ} {next k : ℕ} (p : PutRest v n place old new next k) (l : k < v) where
    inside : k < length n
    inside = omega (arith, l, h.long, h.few)

    grown : followed (drop 1 (take (k + 1) n)) ≡ followed (drop 1 (take k n)) ++ (44 ∷ 32 ∷ decimal (at n k))
    grown =
        rw (add-one k, take-suc n k 0 inside, drop-append-le 1 (take k n) (at n k ∷ []) (omega (arith, p.some, length-take-le k n (omega (arith, inside)))))
        (followed_snoc (drop 1 (take k n)) (at n k))

    pub rest_more : {mid new' : List ℕ} {m e : ℕ} → Put next (44 ∷ 32 ∷ []) new mid m
        → Put m (decimal (at n k)) mid new' e → PutRest v n place old new' e (k + 1)
    rest_more {mid} {new'} {m} {e} a b =
        record {
          some = omega arith;
          most = omega arith;
          put = rw grown (put_then p.put (put_then a b));
          room = omega (arith, p.room, a.behind, b.behind, two_digits (at n k) (h.small k));
        }

  pub rest_end : {new : List ℕ} {next k : ℕ} → PutRest v n place old new next k → v ≤ k → PutShort 12 place (followed (drop 1 (take v n))) old new next
  rest_end {new} {next} {k} p l =
      let e : k ≡ v = omega (arith, p.most) in
      record { put = rw e at p.put; most = omega (arith, p.room, p.most, h.few) }

  pub numbers-none : v ≡ 0 → place + 14 ≤ length old → PutShort 14 place (listed (take v n)) old old place
  unfolding listed
  numbers-none e l = rw e (record { put = put-none place old (omega arith); most = omega arith })

  pub numbers-put : {mid new : List ℕ} {m e : ℕ} → 1 ≤ v → Put place (decimal (at n 0)) old mid m
      → PutShort 12 m (followed (drop 1 (take v n))) mid new e → PutShort 14 place (listed (take v n)) old new e
  numbers-put {mid} {new} {m} {e} l a b =
      record {
        put = rw (listed-parts v n l (omega (arith, h.long))) (put_then a b.put);
        most = omega (arith, a.behind, b.most, two_digits (at n 0) (h.small 0));
      }

-- ---- the closing comma

no-comma : (v : ℕ) (n : List ℕ) → (v ≡ 1 → ⊥) → length n ≡ 4 → closing (take v n) ≡ []
unfolding closing
no-comma zero n e h = refl
no-comma (suc zero) n e h = absurd (e refl)
no-comma (suc (suc v)) [] e h = absurd (omega arith)
no-comma (suc (suc v)) (x ∷ []) e h = absurd (omega arith)
no-comma (suc (suc v)) (x ∷ (y ∷ n)) e h = refl

module _ {v place : ℕ} {old : List ℕ} where
  pub closing-one : {new : List ℕ} {next : ℕ} → v ≡ 1 → Put place (44 ∷ []) old new next → (n : List ℕ) → length n ≡ 4
      → v ≤ 4 → PutShort 1 place (closing (take v n)) old new next
  unfolding closing
  closing-one e p [] h l = absurd (omega arith)
  closing-one e p (x ∷ n) h l = rw e (record { put = p; most = omega (arith, p.behind) })

  pub closing-none : place ≤ length old → (v ≡ 1 → ⊥) → (n : List ℕ) → length n ≡ 4 → v ≤ 4 → PutShort 1 place (closing (take v n)) old old place
  closing-none m e n h l = rw (no-comma v n e h) (record { put = put-none place old m; most = omega arith })

-- ---- pieces one after the other

module _ (s : List ℕ) {place : ℕ} {old : List ℕ} where
  pub tuple-put : {a b c d : List ℕ} {p q r e : ℕ} → Put place (40 ∷ []) old a p → PutShort 14 p (listed s) a b q → PutShort 1 q (closing s) b c r
      → Put r (41 ∷ []) c d e → PutShort 17 place (tuple_out s) old d e
  unfolding tuple_out
  tuple-put {a} {b} {c} {d} {p} {q} {r} {e} w x y z =
      record {
        put = put_then w (put_then x.put (put_then y.put z));
        most = omega (arith, w.behind, x.most, y.most, z.behind);
      }

  pub dict-put : {a b c : List ℕ} {p q e : ℕ}
      → Put place (bytes "{'descr': '<f8', 'fortran_order': False, 'shape': ") old a p
      → PutShort 17 p (tuple_out s) a b q
      → Put q (bytes ", }") b c e → PutShort 70 place (dict_out s) old c e
  unfolding dict_out bytes
  dict-put x y z =
      record {
        put = put_then x (put_then y.put z);
        most = omega (arith, x.behind, y.most, z.behind);
      }

-- ---- the whole

pub start-put : (newer : Bool) {old new : List ℕ} {e : ℕ} → Put 0 (start_out newer) old new e → PutShort 12 0 (start_out newer) old new e
unfolding start_out low_bytes
start-put true p = record { put = p; most = omega (arith, p.behind) }
start-put false p = record { put = p; most = omega (arith, p.behind) }

start-long : (newer : Bool) → length (start_out newer) + head_bytes newer ≡ 128
unfolding start_out low_bytes
start-long true = refl
start-long false = refl

pub front-put : (newer : Bool) (s : List ℕ) {old a b c d : List ℕ} {p q r e : ℕ} → PutShort 12 0 (start_out newer) old a p
    → PutShort 70 p (dict_out s) a b q → Put q (table (127 - q) (λ k. 32)) b c r
    → Put r (10 ∷ []) c d e → PutFront newer s old d e
unfolding front_out head_out
front-put newer s {old} {a} {b} {c} {d} {p} {q} {r} {e} w x y z =
    let k : 127 - q ≡ head_bytes newer - 1 - length (dict_out s) = omega (arith, w.put.behind, x.put.behind, start-long newer) in
    let y' : Put q (table (head_bytes newer - 1 - length (dict_out s)) (λ k. 32)) b c r = subst (λ (m : ℕ). Put q (table m (λ k. 32)) b c r) k y in
    record {
      put = put_then w.put (put_then x.put (put_then y' z));
      is = omega (arith, w.most, x.most, y.behind, z.behind, length-table {A = ℕ} (λ k. 32) (127 - q));
    }
