-- The loops and the choices of this crate, as its code makes them.
use Rattle.std.specs.Prelude.{ℕ, zero, suc, ◌+◌, ◌≤◌, ◌<◌, Bool, ◌&&◌, ◌||◌, cond, List, [], ◌∷◌, ◌++◌, ◌≡◌, refl, ltb, length, get_or, take, set}
use Rattle.std.proofs.Common.{sym, ap, ◌∙◌, arith}
use Rattle.std.proofs.Math.ListN.{get_or-eq_default}
use Rattle.lists.specs.Grow.{grow, over, grow-more, length-grow, length_over, take-over, over-more}
use Rattle.model.specs.declared.Header.{Header}
use Rattle.model_recipes.specs.declared.Step.{Step}
use Rattle.model_recipes.specs.declared.Uses.{Uses}
use Rattle.model_recipes.specs.Steps.{step_of}
use Rattle.model_texts.specs.Trace.{uses_in, step_word, shifts_in, has, equals, farther, follow, furthest_next, furthests}

pub past : (xs : List ℕ) (p d : ℕ) → length xs ≤ p → d ≡ get_or xs p d
past xs p d h = sym (get_or-eq_default xs d {n = p} h)

module _ (known : List Header) (v : ℕ) (ss : List ℕ) (inputs : ℕ) where
  pub follow-is : (p : ℕ) {w a b r : ℕ} {s : Step} {u : Uses} {x y z : Bool} → w ≡ step_word ss inputs p → s ≡ step_of w
      → u ≡ uses_in w → x ≡ equals known v p u.b s.b → b ≡ cond x s.b p → z ≡ shifts_in v w
      → y ≡ equals known v p u.a s.a → a ≡ cond (z || y) s.a b → r ≡ cond (ltb p inputs) p a
      → r ≡ follow known v ss inputs p
  unfolding follow
  follow-is p ew es eu ex eb ez ey ea er = simp (er, ea, ey, ez, eb, ex, eu, es, ew)

  pub next-is : (fs : List ℕ) {w i j a b r : ℕ} {s : Step} {u : Uses} {h x y : Bool} → w ≡ step_word ss inputs (length fs)
      → s ≡ step_of w → u ≡ uses_in w → h ≡ has known v (length fs) → y ≡ has known v s.b → i ≡ get_or fs s.b 0
      → b ≡ farther known v ((h && u.b) && y) i (length fs) → x ≡ has known v s.a → j ≡ get_or fs s.a 0
      → a ≡ farther known v ((h && u.a) && x) j b → r ≡ cond (ltb (length fs) inputs) (length fs) a
      → r ≡ furthest_next known v ss inputs fs
  unfolding furthest_next
  next-is fs ew es eu eh ey ei eb ex ej ea er = simp (er, ea, ej, ex, eb, ei, ey, eh, eu, es, ew)

  pub many : (k : ℕ) → length (furthests known v ss inputs k) ≡ k
  unfolding furthests
  many k = omega (arith, length-grow k (furthest_next known v ss inputs) [])

-- k numbers found, each by s from those before it, at the front of the places that were lent
pub record Grown (s : List ℕ → ℕ) (old found : List ℕ) (k : ℕ) : Type 0 where
  pub most : k ≤ length old
  pub is : found ≡ over (grow k s []) old

pub grown-none : (s : List ℕ → ℕ) (old : List ℕ) → Grown s old old 0
unfolding grow
grown-none s old = record { most = omega arith; is = refl }

pub grown-many : (s : List ℕ → ℕ) (k : ℕ) → length (grow k s []) ≡ k
grown-many s k = omega (arith, length-grow k s [])

module _ {s : List ℕ → ℕ} {old found : List ℕ} {k : ℕ} (f : Grown s old found k) where
  pub grown-len : length found ≡ length old
  grown-len = ap length f.is ∙ length_over (grow k s []) old (omega (arith, grown-many s k, f.most))

  pub grown-front : take k found ≡ grow k s []
  grown-front = ap (take k) f.is ∙ take-over (grow k s []) old k (grown-many s k)

  pub grown-more : {x : ℕ} → x ≡ s (take k found) → k < length old → Grown s old (set found k x) (k + 1)
  grown-more {x} e l =
      record {
        most = omega arith;
        is =
            ap (λ (z : List ℕ). set z k x) f.is
            ∙ (over-more (grow k s []) old x k (grown-many s k) l
            ∙ ap (λ (z : List ℕ). over z old)
            (ap (λ (y : ℕ). grow k s [] ++ (y ∷ [])) (e ∙ ap s grown-front) ∙ sym (grow-more k s [])));
      }

  -- the first n of them
  pub grown_end : {n : ℕ} → k ≤ n → n ≤ k → take n found ≡ grow n s []
  grown_end {n} a b =
      let q : k ≡ n = omega arith in
      ap (λ (m : ℕ). take m found) (sym q) ∙ (grown-front ∙ ap (λ (m : ℕ). grow m s []) q)

-- a place inside has what it has, whatever stands for those outside
pub inside_any : (xs : List ℕ) (p d e : ℕ) → p < length xs → get_or xs p d ≡ get_or xs p e
inside_any [] p d e h = absurd (omega (arith, h))
inside_any (x ∷ xs) zero d e h = refl
inside_any (x ∷ xs) (suc p) d e h = inside_any xs p d e (omega arith)
