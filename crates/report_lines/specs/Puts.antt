-- Printing one text after the other into lent memory, as far as it reaches. What was printed so far is a text of its
-- own; each function appends to it.
use Rattle.std.specs.Prelude.{ℕ, zero, suc, ◌+◌, ◌-◌, ◌≤◌, ◌<◌, min, List, [], ◌∷◌, ◌++◌, ◌≡◌, refl, leb, length, take}
use Rattle.std.proofs.Common.{append_assoc, append-nil, sym, ap, ◌∙◌, arith, add-one, length-append, length-take, take_all, length-take-le, leb-true, leb-false}
use Rattle.lists.specs.Grow.{over, length_over, take-over, over-over}
use Rattle.lists.specs.Test.{decide}
use Rattle.sheet_text.specs.Put.{Put, put_front_lem}
use Rattle.model_texts.specs.Report.{joined}

-- t was printed from the front on, over what stood there before; n is the place behind it
pub record Printed (t old new : List ℕ) (n : ℕ) : Type 0 where
  pub behind : n ≡ min (length t) (length old)
  pub is : new ≡ over (take (length old) t) old

-- xs is appended
abbrev pub Puts : List ℕ → ℕ → List ℕ → List ℕ → ℕ → Type 0
Puts xs at mid new next = (t old : List ℕ) → Printed t old mid at → Printed (t ++ xs) old new next

pub printed-none : (old : List ℕ) → Printed [] old old 0
printed-none old = record { behind = omega arith; is = rw (take_all {A = ℕ} (length old) [] (omega arith)) refl }

pub puts_none : (at : ℕ) (mid : List ℕ) → Puts [] at mid mid at
puts_none at mid t old p = rw (append-nil t) p

-- one text after the other
pub puts_then : {xs ys mid mid' new : List ℕ} {at next end : ℕ} → Puts xs at mid mid' next → Puts ys next mid' new end → Puts (xs ++ ys) at mid new end
puts_then {xs} {ys} p q t old s = rw (← append_assoc t xs ys) (q (t ++ xs) old (p t old s))

-- the place behind is never past the end
past_end : {t old mid : List ℕ} {at : ℕ} → Printed t old mid at → length mid ≡ length old
past_end {t} {old} s = ap length s.is ∙ length_over (take (length old) t) old (simp length-take (omega arith))

-- the first n of two lists: those of the first, then as many of the second as are left
take-both : (t xs : List ℕ) (n : ℕ) → take n (t ++ xs) ≡ take n t ++ take (n - length t) xs
take-both [] xs zero = refl
take-both [] xs (suc n) = let e : suc n ≡ suc n - 0 = omega arith in ap (λ (k : ℕ). take k xs) e
take-both (x ∷ t) xs zero = let e : 0 ≡ 0 - suc (length t) = omega arith in ap (λ (k : ℕ). take k xs) e
take-both (x ∷ t) xs (suc n) =
    let e : suc n - suc (length t) ≡ n - length t = omega arith in
    ap (λ (l : List ℕ). x ∷ l) (take-both t xs n) ∙ ap (λ (k : ℕ). (x ∷ take n t) ++ take k xs) (sym e)

-- and more than there are makes no difference
taken : (t xs : List ℕ) (n m : ℕ) → m ≡ min (length xs) (n - min (length t) n) → take n t ++ take m xs ≡ take n (t ++ xs)
taken t xs n m e =
    let f : take m xs ≡ take (n - length t) xs =
    decide (leb (n - length t) (length xs))
    (λ b. let h : n - length t ≤ length xs = leb-true _ _ b in let g : m ≡ n - length t = omega arith in ap (λ (k : ℕ). take k xs) g)
    (λ b. let h : length xs < n - length t = leb-false _ _ b in let g : m ≡ length xs = omega arith in
    take_all m xs (omega arith) ∙ sym (take_all (n - length t) xs (omega arith))) in
    ap (λ (l : List ℕ). take n t ++ l) f ∙ sym (take-both t xs n)

-- as much of xs as there is room for, put at its place
module _ (xs : List ℕ) {mid new : List ℕ} {at next : ℕ} where
  clipped : (t old : List ℕ) → Printed t old mid at → Put at (take (min (length xs) (length mid - at)) xs) mid new next → Printed (t ++ xs) old new next
  clipped t old s p =
      let l = past_end s in
      let n : length (take (min (length xs) (length mid - at)) xs) ≡ min (length xs) (length mid - at) = length-take-le _ xs (omega arith) in
      let front : take at mid ≡ take (length old) t =
      ap (take at) s.is ∙ take-over (take (length old) t) old at (length-take (length old) t ∙ omega (arith, s.behind)) in
      let both : take at mid ++ take (min (length xs) (length mid - at)) xs ≡ take (length old) (t ++ xs) =
      ap (λ (z : List ℕ). z ++ take (min (length xs) (length mid - at)) xs) front
      ∙ taken t xs (length old) (min (length xs) (length mid - at)) (omega (arith, s.behind)) in
      record {
        behind = omega (arith, s.behind, p.behind, n, l, length-append t xs);
        is =
            p.is ∙ (ap (λ (z : List ℕ). over z mid) both
            ∙ (ap (over (take (length old) (t ++ xs))) s.is
            ∙ over-over (take (length old) (t ++ xs)) (take (length old) t) old
            (simp (length-take, length-append) (omega arith))));
      }

  pub puts_clipped : at ≤ length mid → Put at (take (min (length xs) (length mid - at)) xs) mid new next → Puts xs at mid new next
  puts_clipped h p t old s = clipped t old s p

-- a place past the end was never left by printing
pub puts-past : (xs : List ℕ) {mid : List ℕ} {at : ℕ} → length mid < at → Puts xs at mid mid at
puts-past xs h t old s = absurd (omega (arith, s.behind, past_end s))

-- a text that was put from the front of a buffer
pub put-taken : {xs old new : List ℕ} {n : ℕ} → Put 0 xs old new n → take n new ≡ xs
put-taken {xs} {old} {new} {n} p = let e = put_front_lem p in ap (take n) e.1 ∙ take-over xs old n (sym e.0)

-- one more of f 0, f 1, ..
pub puts-joined : (f : ℕ → List ℕ) (k : ℕ) {old mid new : List ℕ} {at next end : ℕ} → Puts (joined f k) at old mid next
    → Puts (f k) next mid new end → Puts (joined f (k + 1)) at old new end
unfolding joined
puts-joined f k p q = rw (add-one k) (puts_then p q)

-- a loop over f 0, f 1, ..: n of them, k done
pub record Putting (f : ℕ → List ℕ) (n at : ℕ) (old new : List ℕ) (next k : ℕ) : Type 0 where
  pub most : k ≤ n
  pub len : length new ≡ length old
  pub puts : Puts (joined f k) at old new next

pub putting-none : (f : ℕ → List ℕ) (n at : ℕ) (old : List ℕ) → Putting f n at old old at 0
unfolding joined
putting-none f n at old = record { most = omega arith; len = refl; puts = puts_none at old }

module _ {f : ℕ → List ℕ} {n at : ℕ} {old new : List ℕ} {next k : ℕ} (p : Putting f n at old new next k) where
  pub putting-more : {new' : List ℕ} {end : ℕ} → k < n → length new' ≡ length new → Puts (f k) next new new' end → Putting f n at old new' end (k + 1)
  putting-more l e q = record { most = omega arith; len = e ∙ p.len; puts = puts-joined f k p.puts q }

  pub putting_end : n ≤ k → Puts (joined f n) at old new next
  putting_end l = let e : k ≡ n = omega (arith, p.most) in rw e at p.puts
