-- Printing: xs put from the place `at` on; `next` is the place behind it.
use Rattle.std.specs.Prelude.{ℕ, ◌+◌, ◌≤◌, ◌<◌, List, [], ◌∷◌, ◌++◌, ◌≡◌, length, get_or, take, set}
use Rattle.std.proofs.Common.{append_assoc, append-nil, sym, ap, ◌∙◌, subst, add-zero, length-append, take-append-drop, length-take-le, take-suc, take_all}
use native.Mathlib.Omega.{arith}
use Rattle.std.proofs.Math.Numerals.{add-one}
use Rattle.lists.specs.Grow.{over, length_over, take-over, over-more, over-over, length_snoc}
use Rattle.lists.specs.Table.{table}

pub record Put (at : ℕ) (xs old new : List ℕ) (next : ℕ) : Type 0 where
  pub behind : next ≡ at + length xs
  pub fits : next ≤ length old
  pub is : new ≡ over (take at old ++ xs) old

module _ {at : ℕ} {xs old new : List ℕ} {next : ℕ} (p : Put at xs old new next) where
  -- all that stands before `next`
  front-len : length (take at old ++ xs) ≡ next
  front-len = omega (arith, length-append (take at old) xs, length-take-le at old (omega (arith, p.behind, p.fits)), p.behind)

  pub put-len : length new ≡ length old
  put-len = ap length p.is ∙ length_over (take at old ++ xs) old (omega (arith, front-len, p.fits))

  -- one byte more
  pub put-more : (x : ℕ) → next < length old → Put at (xs ++ (x ∷ [])) old (set new next x) (next + 1)
  put-more x l =
      record {
        behind = omega (arith, p.behind, length_snoc xs x);
        fits = omega arith;
        is =
            ap (λ (n : List ℕ). set n next x) p.is
            ∙ (over-more (take at old ++ xs) old x next front-len l ∙ ap (λ (a : List ℕ). over a old) (append_assoc (take at old) xs (x ∷ [])));
      }

  -- one text after the other
  pub put_then : {ys new' : List ℕ} {end : ℕ} → Put next ys new new' end → Put at (xs ++ ys) old new' end
  put_then {ys} {new'} {end} q =
      let a : List ℕ = take at old ++ xs in
      let t : take next new ≡ a = ap (take next) p.is ∙ take-over a old next front-len in
      record {
        behind = omega (arith, p.behind, q.behind, length-append xs ys);
        fits = omega (arith, q.fits, put-len);
        is =
            q.is
            ∙ (ap (λ (l : List ℕ). over (l ++ ys) new) t
            ∙ (ap (over (a ++ ys)) p.is
            ∙ (over-over (a ++ ys) a old (omega (arith, length-append a ys)) ∙ ap (λ (l : List ℕ). over l old) (append_assoc (take at old) xs ys))));
      }

pub put-none : (at : ℕ) (old : List ℕ) → at ≤ length old → Put at [] old old at
put-none at old h =
    let n = length-take-le at old h in
    record {
      behind = omega arith;
      fits = h;
      is = sym (rw (append-nil, n) (take-append-drop at old));
    }

-- all that was printed, from the front on
pub put_front_lem : {xs old new : List ℕ} {n : ℕ} → Put 0 xs old new n → (n ≡ length xs) × (new ≡ over xs old)
put_front_lem p = (omega (arith, p.behind), p.is)

-- the loops that print: after k bytes of a text
pub record PutTaken (xs : List ℕ) (at : ℕ) (old new : List ℕ) (k : ℕ) : Type 0 where
  pub most : k ≤ length xs
  pub put : Put at (take k xs) old new (at + k)

pub taken_none : (xs : List ℕ) (at : ℕ) (old : List ℕ) → at ≤ length old → PutTaken xs at old old 0
taken_none xs at old h = record { most = omega arith; put = rw (add-zero at) (put-none at old h) }

module _ {xs : List ℕ} {at : ℕ} {old new : List ℕ} {k : ℕ} (p : PutTaken xs at old new k) where
  pub taken_more : k < length xs → at + k < length old → PutTaken xs at old (set new (at + k) (get_or xs k 0)) (k + 1)
  taken_more l h =
      let e : at + k + 1 ≡ at + (k + 1) = omega arith in
      record { most = omega arith; put = rw (add-one k, take-suc xs k 0 l, ← add-one k, ← e) (put-more p.put (get_or xs k 0) h) }

  pub taken_end : length xs ≤ k → Put at xs old new (at + k)
  taken_end l = rw (take_all k xs l) at p.put

-- after k of n bytes, each by its number
pub record PutTable (n : ℕ) (f : ℕ → ℕ) (at : ℕ) (old new : List ℕ) (k : ℕ) : Type 0 where
  pub most : k ≤ n
  pub put : Put at (table k f) old new (at + k)

pub table_none : (n : ℕ) (f : ℕ → ℕ) (at : ℕ) (old : List ℕ) → at ≤ length old → PutTable n f at old old 0
unfolding table
table_none n f at old h = record { most = omega arith; put = rw (add-zero at) (put-none at old h) }

module _ {n : ℕ} {f : ℕ → ℕ} {at : ℕ} {old new : List ℕ} {k : ℕ} (p : PutTable n f at old new k) where
  pub table_more : {x : ℕ} → x ≡ f k → k < n → at + k < length old → PutTable n f at old (set new (at + k) x) (k + 1)
  unfolding table
  table_more {x} e l h =
      let q : at + k + 1 ≡ at + (k + 1) = omega arith in
      record { most = omega arith; put = rw (← q, add-one k, ← e) (put-more p.put x h) }

  pub table_end : n ≤ k → Put at (table n f) old new (at + k)
  table_end l = let e : k ≡ n = omega (arith, p.most) in subst (λ (i : ℕ). Put at (table i f) old new (at + k)) e p.put
