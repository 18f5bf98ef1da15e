-- Parts of a buffer, what stands below a place, and what was kept.
use Rattle.std.specs.Prelude.{ℕ, zero, suc, ◌+◌, ◌-◌, ◌≤◌, ◌<◌, List, [], ◌∷◌, ◌++◌, ◌≡◌, refl, length, take, drop, set}
use Rattle.std.proofs.Common.{sym, ap, ◌∙◌, arith, zero-add, suc-add, length-set, length-take, length-drop}
use Rattle.std.proofs.Common.{length-append, take-take, drop-cons, get_or-set_same, take_at, drop_at, drop-drop}
use Rattle.std.proofs.Common.{drop-set-lt, length-take-le}
use Rattle.std.proofs.lemmas.List.{take-set-le, drop-set-add, set-append_left}
use Rattle.std.proofs.Math.Seq.{take-nil}
use Rattle.lists.specs.Table.{Filled, filled_none, filled_more, filled_end, front, table, length-table}
use borrow.Rule.Slice.PartMut.{put_mid}

module _ {A : Type 0} where
  -- the places from f up to t, as `&l[f..t]` reads
  abbrev pub part : ℕ → ℕ → List A → List A
  part f t l = take (t - f) (drop f l)

  pub length_part : (f t : ℕ) (l : List A) → f ≤ t → t ≤ length l → length (part f t l) ≡ t - f
  length_part f t l p q = simp (length-take, length-drop) (omega arith)

  -- w' is w below s
  pub record Below (s : ℕ) (w w' : List A) : Type 0 where
    pub len : length w' ≡ length w
    pub head : take s w' ≡ take s w

  pub below-same : {s : ℕ} {w : List A} → Below s w w
  below-same = record { len = refl; head = refl }

  pub below_less : {s t : ℕ} {w w' : List A} → s ≤ t → Below t w w' → Below s w w'
  below_less {s} {t} {w} {w'} h b =
      record { len = b.len; head = sym (take-take s t w' h) ∙ ap (take s) b.head ∙ take-take s t w h }

  pub below_then : {s : ℕ} {w w' w'' : List A} → Below s w w' → Below s w' w'' → Below s w w''
  below_then b c = record { len = c.len ∙ b.len; head = c.head ∙ b.head }

  pub below_set : {s : ℕ} (w : List A) (i : ℕ) (v : A) → s ≤ i → Below s w (set w i v)
  below_set {s} w i v h = record { len = length-set w i v; head = take-set-le s w i v h }

  -- a part of a front
  pub drop-take : (f k : ℕ) (l : List A) → drop f (take (f + k) l) ≡ take k (drop f l)
  drop-take zero k l = rw (zero-add k)
  drop-take (suc f) k [] = rw (take-nil (suc f + k), take-nil k)
  drop-take (suc f) k (x ∷ l) = rw (suc-add f k) (drop-take f k l)

  -- a part below s is the same
  pub below-part : {s : ℕ} {w w' : List A} (f t : ℕ) → Below s w w' → f ≤ t → t ≤ s → part f t w' ≡ part f t w
  below-part {s} {w} {w'} f t b p q =
      let k : f + (t - f) ≡ t = omega arith in
      let cut : (l : List A) → take (t - f) (drop f l) ≡ drop f (take t (take s l)) =
      λ l. sym (drop-take f (t - f) l) ∙ (ap (λ (n : ℕ). drop f (take n l)) k ∙ ap (drop f) (sym (take-take t s l q))) in
      cut w' ∙ (ap (λ (l : List A). drop f (take t l)) b.head ∙ sym (cut w))

  -- a loop that fills the places of `d` from `at` on, and has done n
  pub record FilledAt (at n : ℕ) (f : ℕ → A) (d out : List A) : Type 0 where
    pub below : Below at d out
    pub tail : Filled n f (drop at d) (drop at out)

  pub at_none : {at : ℕ} {f : ℕ → A} {d : List A} → FilledAt at 0 f d d
  at_none = record { below = below-same; tail = filled_none }

  pub at_more : {at n : ℕ} {f : ℕ → A} {d out : List A} {v : A} → FilledAt at n f d out → v ≡ f n
      → n < length (drop at d) → FilledAt at (n + 1) f d (set out (at + n) v)
  at_more {at} {n} {f} {d} {out} {v} h e l =
      record {
        below = below_then h.below (below_set out (at + n) v (omega arith));
        tail = rw (drop-set-add at out n v) (filled_more h.tail e l);
      }

  -- the part from `at` on holds xs, and what lies below is as it was
  pub record Kept (at end : ℕ) (xs : List A) (w w' : List A) : Type 0 where
    pub below : Below at w w'
    pub holds : part at end w' ≡ xs
    pub above : drop end w' ≡ drop end w

  pub at_end : {at i n : ℕ} {f : ℕ → A} {d out : List A} → FilledAt at i f d out → i ≤ n → n ≤ i → Kept at (at + n) (table n f) d out
  at_end {at} {i} {n} {f} {d} {out} h p q =
      let k : at + n - at ≡ n = omega arith in
      record {
        below = h.below;
        holds = ap (λ (m : ℕ). take m (drop at out)) k ∙ ap (take n) (filled_end h.tail p q) ∙ take_at (table n f) (drop n (drop at d)) n (length-table f n);
        above =
            sym (drop-drop n at out) ∙ ap (drop n) (filled_end h.tail p q)
            ∙ drop_at (table n f) (drop n (drop at d)) n (length-table f n) ∙ drop-drop n at d;
      }

  -- a part above is the same
  pub kept_above : {at end : ℕ} {xs w w' : List A} (f t : ℕ) → Kept at end xs w w' → end ≤ f → part f t w' ≡ part f t w
  kept_above {at} {end} {xs} {w} {w'} f t k h =
      let e : end + (f - end) ≡ f = omega arith in
      let cut : (l : List A) → drop f l ≡ drop (f - end) (drop end l) = λ l. ap (λ (n : ℕ). drop n l) (sym e) ∙ sym (drop-drop (f - end) end l) in
      ap (take (t - f)) (cut w' ∙ ap (drop (f - end)) k.above ∙ sym (cut w))

  pub kept_set : (w : List A) (i : ℕ) (v : A) → i < length w → Kept i (i + 1) (v ∷ []) w (set w i v)
  kept_set w i v h =
      let k : i + 1 - i ≡ 1 = omega arith in
      let l : i < length (set w i v) = rw length-set h in
      record {
        below = below_set w i v (omega arith);
        holds = ap (λ (m : ℕ). take m (drop i (set w i v))) k ∙ (ap (take 1) (drop-cons (set w i v) i v l) ∙ ap (λ (z : A). z ∷ [])
            (get_or-set_same w i v v h));
        above = drop-set-lt (i + 1) w i v (omega arith);
      }

  -- a value stored at the front of a list whose front is a
  pub set_front : (a d : List A) {o : List A} (v : A) → o ≡ a ++ d → 0 < length a → set o 0 v ≡ set a 0 v ++ d
  set_front a d {o} v e h = ap (λ z. set z 0 v) e ∙ set-append_left a d 0 v h

  -- a part of a buffer became xs
  pub kept-mid : (p n : ℕ) (w ys : List A) {xs : List A} (k : ℕ) → xs ≡ take k ys → k ≡ n → n ≤ length ys
      → p + n ≤ length w → {q : ℕ} → q ≡ n → Kept p (p + n) (take n ys) w (put_mid p q w xs)
  kept-mid p n w ys {xs} k e f g h {q} e' =
      let l : length xs ≡ n = ap length e ∙ (rw f (length-take-le n ys g)) in
      let lp : length (take p w) ≡ p = length-take-le p w (omega arith) in
      let rest : List A = drop q (drop p w) in
      let d : drop p (take p w ++ (xs ++ rest)) ≡ xs ++ rest = drop_at (take p w) (xs ++ rest) p lp in
      let m : p + n - p ≡ n = omega arith in
      record {
        below = record { len = simp (length-append, length-take, length-drop) (omega (arith, l)); head = take_at (take p w) (xs ++ rest) p lp };
        holds = ap (λ (j : ℕ). take j (drop p (take p w ++ (xs ++ rest)))) m ∙ (ap (take n) d ∙ (take_at xs rest n l ∙ (e ∙ ap (λ (j : ℕ). take j ys) f)));
        above =
            sym (drop-drop n p (take p w ++ (xs ++ rest)))
            ∙ (ap (drop n) d ∙ (drop_at xs rest n l ∙ (drop-drop q p w ∙ ap (λ (j : ℕ). drop (p + j) w) e')));
      }

  -- the one place of a list, stored
  pub one_place : (x : A) (old : List A) → length old ≡ 1 → set old 0 x ≡ x ∷ []
  one_place x [] e = absurd (omega arith)
  one_place x (y ∷ []) e = refl
  one_place x (y ∷ z ∷ old) e = absurd (omega arith)

  -- the first place of a list, stored
  pub one_set : (x : A) (w : List A) → 0 < length w → take 1 (set w 0 x) ≡ x ∷ []
  one_set x [] h = absurd (omega arith)
  one_set x (y ∷ w) h = refl
