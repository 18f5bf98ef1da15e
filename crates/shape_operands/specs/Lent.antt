-- What a step is lent: where an operand lies, and a part of the pool that is written piece by piece. The m.. are the
-- lengths of buffers.
use Rattle.std.specs.Prelude.{ℕ, zero, suc, ◌+◌, ◌-◌, ◌*◌, ◌≤◌, List, [], ◌∷◌, ◌++◌, Bool, true, false, cond, ◌≡◌, refl, length, take, drop, Float}
use Rattle.std.proofs.Common.{append_assoc, append-nil, sym, ap, ◌∙◌, inr, arith, add-zero, add-suc, length-take}
use Rattle.std.proofs.Common.{length-drop, take-add, take_all, take_at, take-take, drop-drop}
use borrow.Rule.Slice.PartMut.{put_mid}
use Rattle.lists.specs.Table.{table, length-table}
use Rattle.lists.specs.Part.{part, below_less, below_then, below-part, drop-take, Kept, kept-mid}
use Rattle.model.specs.declared.Header.{Header}
use Rattle.model.specs.Header.{stored}
use Rattle.model.specs.Refusals.{zero_f, zeros, padded}
use Rattle.model.specs.Poly.{Poly, poly}
use Rattle.shape_operands.specs.Apart.{Apart, apart_fewer}

-- where a value lies: among the inputs' coefficients, or in the pool
abbrev pub source : Bool → List Float → List Float → List Float
source input cs pool = cond input cs pool

-- the value with the header h that lies there from `from` on
abbrev pub lying : Bool → List Float → List Float → ℕ → Header → Poly
lying input cs pool from h = poly h (take (stored h) (drop from (source input cs pool)))

-- an operand with the header x, which lies before the place `at` where it lies in the pool
pub record Lies (x : Header) (input : Bool) (from at mc : ℕ) : Type 0 where
  pub ends : from + stored x ≤ cond input mc at

-- an operand with the header x: its places are there, and where it lies in the pool they do not overlap the n places
-- from `at` on, which are written
pub record Aside (x : Header) (input : Bool) (from at n mc mp : ℕ) : Type 0 where
  pub ends : from + stored x ≤ cond input mc mp
  pub apart : input ≡ false → Apart at n from (stored x)

-- n places of the pool from `at` on, and eight times as many of scratch
pub record Lent (n at mp ms : ℕ) : Type 0 where
  pub room : at + n ≤ mp
  pub spare : 8 * n ≤ ms
  pub small : n ≤ 4096

pub length-source : (input : Bool) (cs pool : List Float) → length (source input cs pool) ≡ cond input (length cs) (length pool)
length-source true cs pool = refl
length-source false cs pool = refl

-- the operand's places, read off what lies before `at`
pub lies-source : {x : Header} {input : Bool} {from at : ℕ} (cs before : List Float) → Lies x input from at (length cs)
    → length before ≡ at → from + stored x ≤ length (source input cs before)
lies-source {x} {input} {from} cs before h e =
    rw (length-source input cs before, e) h.ends

-- the operand's places, read off the whole pool
pub aside-source : {x : Header} {input : Bool} {from at n : ℕ} (cs pool : List Float) → Aside x input from at n (length cs) (length pool)
    → from + stored x ≤ length (source input cs pool)
aside-source {input = input} cs pool h = rw (length-source input cs pool) h.ends

-- fewer places are written
pub aside_fewer : {x : Header} {input : Bool} {from at n m mc mp : ℕ} → Aside x input from at n mc mp → m ≤ n → Aside x input from at m mc mp
aside_fewer h l = record { ends = h.ends; apart = λ e. apart_fewer (h.apart e) l }

no : true ≡ false → ⊥
no e = let z : ◌≡◌ {A = ℕ} 0 1 = cc in omega arith

-- an operand that is given
pub given-aside : {x : Header} {from at n mc mp : ℕ} → from + stored x ≤ mc → Aside x true from at n mc mp
given-aside h = record { ends = h; apart = λ e. absurd (no e) }

-- an operand that lies before the place `at`
module _ {x : Header} {from at : ℕ} where
  pub before-aside : (input : Bool) {mc mp : ℕ} (n : ℕ) → Lies x input from at mc → at ≤ mp → Aside x input from at n mc mp
  before-aside true n h l = given-aside h.ends
  before-aside false n h l = record { ends = omega (arith, h.ends); apart = λ e. record { either = inr h.ends } }

  -- .. is the same there
  pub lying-before : (input : Bool) (cs pool : List Float) → Lies x input from at (length cs)
      → lying input cs (take at pool) from x ≡ lying input cs pool from x
  lying-before true cs pool h = refl
  lying-before false cs pool h =
      let e : at ≡ from + (at - from) = omega (arith, h.ends) in
      ap (poly x) (ap (λ (z : ℕ). take (stored x) (drop from (take z pool))) e
      ∙ (ap (take (stored x)) (drop-take from (at - from) pool) ∙ take-take (stored x) (at - from) (drop from pool) (omega (arith, h.ends))))

-- what `operand` shows, by where the value lies
module _ {input : Bool} (cs pool : List Float) where
  module _ (e : input ≡ true) where
    pub input-ends : {k : ℕ} → k ≤ length (source input cs pool) → k ≤ length cs
    input-ends h = rw e at h

    pub input-part : (f c : ℕ) → part f (f + c) cs ≡ take c (drop f (source input cs pool))
    input-part f c = let m : f + c - f ≡ c = omega arith in rw e (ap (λ (k : ℕ). take k (drop f cs)) m)

  module _ (e : input ≡ false) where
    pub pool-ends : {k : ℕ} → k ≤ length (source input cs pool) → k ≤ length pool
    pool-ends h = rw e at h

    pub pool-part : (f c : ℕ) → part f (f + c) pool ≡ take c (drop f (source input cs pool))
    pool-part f c = let m : f + c - f ≡ c = omega arith in rw e (ap (λ (k : ℕ). take k (drop f pool)) m)

pub length-operand : (f c : ℕ) (l : List Float) → f + c ≤ length l → length (take c (drop f l)) ≡ c
length-operand f c l h = simp (length-take, length-drop) (omega arith)

-- ---- parts that are written one after the other

module _ {A : Type 0} where
  pub kept_as : {at e : ℕ} {xs ys w w' : List A} → xs ≡ ys → Kept at e xs w w' → Kept at e ys w w'
  kept_as e k = rw e at k

  pub kept_then : {at m e : ℕ} {xs ys w w' w'' : List A} → Kept at m xs w w' → Kept m e ys w' w'' → at ≤ m → m ≤ e → Kept at e (xs ++ ys) w w''
  kept_then {at} {m} {e} {xs} {ys} {w} {w'} {w''} p q h k =
      let i : e - at ≡ (m - at) + (e - m) = omega arith in
      let j : at + (m - at) ≡ m = omega arith in
      let n : m + (e - m) ≡ e = omega arith in
      let past : (l : List A) → drop e l ≡ drop (e - m) (drop m l) = λ l. ap (λ (z : ℕ). drop z l) (sym n) ∙ sym (drop-drop (e - m) m l) in
      record {
        below = below_then p.below (below_less h q.below);
        holds = ap (λ (z : ℕ). take z (drop at w'')) i
            ∙ (take-add (m - at) (e - m) (drop at w'')
            ∙ (ap (λ (z : List A). take (m - at) (drop at w'') ++ take (e - m) z) (drop-drop (m - at) at w'' ∙ ap (λ (z : ℕ). drop z w'') j)
            ∙ (ap (λ (z : List A). z ++ part m e w'') (below-part at m q.below h (omega arith) ∙ p.holds) ∙ ap (λ (z : List A). xs ++ z) q.holds)));
        above = q.above ∙ (past w' ∙ (ap (drop (e - m)) p.above ∙ sym (past w)));
      }

  -- what follows a place in a part is written again
  pub kept-over : {at m e : ℕ} {xs ys w w' w'' : List A} → Kept at e xs w w' → Kept m e ys w' w'' → at ≤ m → m ≤ e → Kept at e (take (m - at) xs ++ ys) w w''
  kept-over {at} {m} {e} {xs} {ys} {w} {w'} {w''} p q h k =
      let i : e - at ≡ (m - at) + (e - m) = omega arith in
      let j : at + (m - at) ≡ m = omega arith in
      let front : take (m - at) (drop at w') ≡ take (m - at) xs =
      sym (take-take (m - at) (e - at) (drop at w') (omega arith)) ∙ ap (take (m - at)) p.holds in
      record {
        below = below_then p.below (below_less h q.below);
        holds = ap (λ (z : ℕ). take z (drop at w'')) i
            ∙ (take-add (m - at) (e - m) (drop at w'')
            ∙ (ap (λ (z : List A). take (m - at) (drop at w'') ++ take (e - m) z) (drop-drop (m - at) at w'' ∙ ap (λ (z : ℕ). drop z w'') j)
            ∙ (ap (λ (z : List A). z ++ part m e w'') (below-part at m q.below h (omega arith) ∙ front)
            ∙ ap (λ (z : List A). take (m - at) xs ++ z) q.holds)));
        above = q.above ∙ p.above;
      }

zeros-add : (n m : ℕ) → zeros n ++ zeros m ≡ zeros (n + m)
unfolding table
zeros-add n zero = rw (add-zero n) (append-nil (zeros n))
zeros-add n (suc m) = rw (add-suc n m) (sym (append_assoc (zeros n) (zeros m) (zero_f ∷ [])) ∙ ap (λ (l : List Float). l ++ (zero_f ∷ [])) (zeros-add n m))

-- an answer in n places, and +0.0 in those that follow
pub padded_on : (n m : ℕ) (xs : List Float) → length xs ≤ n → n ≤ m → padded n xs ++ zeros (m - n) ≡ padded m xs
padded_on n m xs h k =
    let e : (n - length xs) + (m - n) ≡ m - length xs = omega arith in
    append_assoc xs (zeros (n - length xs)) (zeros (m - n)) ∙ ap (λ (l : List Float). xs ++ l) (zeros-add (n - length xs) (m - n) ∙ ap zeros e)

-- a part that was cleared
pub pad-kept : (from to : ℕ) (w : List Float) {zs : List Float} {k : ℕ} → zs ≡ zeros k → k ≡ to - from → from ≤ to
    → to ≤ length w → Kept from to (zeros (to - from)) w (put_mid from (to - from) w zs)
pad-kept from to w {zs} {k} e f h l =
    let n : ℕ = to - from in
    let t : (m : ℕ) → m ≡ n → zeros m ≡ take m (zeros n) = λ m i. rw i (sym (take_all n (zeros n) (omega (arith, length-table (λ k. zero_f) n)))) in
    let s : from + n ≡ to = omega arith in
    let kept : Kept from (from + n) (take n (zeros n)) w (put_mid from n w zs) =
    kept-mid from n w (zeros n) k (e ∙ t k f) f (omega (arith, length-table (λ k. zero_f) n)) (omega arith) refl in
    rw (s, ← t n refl) at kept

-- the front of a buffer was written, and then kept in the pool
pub front_kept : {at e : ℕ} {n : ℕ} (xs rest : List Float) {ys w w' : List Float} → Kept at e (take n (xs ++ rest)) w w'
    → length xs ≡ n → xs ≡ ys → Kept at e ys w w'
front_kept {n = n} xs rest k l e = kept_as (take_at xs rest n l ∙ e) k

-- a part of the pool was written
pub part-kept : (at e : ℕ) (w xs : List Float) → length xs ≡ e - at → at ≤ e → e ≤ length w → Kept at e xs w (put_mid at (e - at) w xs)
part-kept at e w xs l h k =
    let n : at + (e - at) ≡ e = omega arith in
    let t : xs ≡ take (e - at) xs = sym (take_all (e - at) xs (omega arith)) in
    let r : Kept at (at + (e - at)) (take (e - at) xs) w (put_mid at (e - at) w xs) =
    kept-mid at (e - at) w xs (e - at) t refl (omega arith) (omega arith) refl in
    rw n at (kept_as (sym t) r)
