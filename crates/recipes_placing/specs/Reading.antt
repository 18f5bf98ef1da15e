-- The code that finds last readers: the test of a word, and the walk over the steps after one.
use Rattle.std.specs.Prelude.{ℕ, suc, ◌+◌, ◌≤◌, ◌<◌, true, false, ◌&&◌, ◌||◌, cond, ◌≡◌, eqb, length, get_or, drop}
use mathlib.Core.List.{List}
use Rattle.std.proofs.Math.Path.{sym, ap}
use Rattle.std.proofs.Common.{◌∙◌, arith, add-one, drop_of_length-le, drop-cons}
use Rattle.model_recipes.specs.declared.Step.{Step}
use Rattle.model_recipes.specs.declared.Uses.{Uses}
use Rattle.model_recipes.specs.Steps.{step_of, uses_of}
use Rattle.model_placing.specs.Placing.{reads, last_from}

pub reads-is : (w p : ℕ) {s : Step} {u : Uses} → s ≡ step_of w → u ≡ uses_of s.kind → ((u.a && eqb s.a p) || (u.b && eqb s.b p)) ≡ reads w p
unfolding reads
reads-is w p e f = simp (f, e)

-- the steps after `own` and before i looked at: `last` is the last reader so far
pub record Looking (ss : List ℕ) (p own last i : ℕ) : Type 0 where
  pub most : i ≤ length ss
  pub left : last_from p (suc own) (drop (suc own) ss) own ≡ last_from p i (drop i ss) last

pub looking-none : {ss : List ℕ} (p : ℕ) {own : ℕ} → own < length ss → Looking ss p own own (own + 1)
looking-none {ss} p {own} h = record { most = omega arith; left = ap (λ (i : ℕ). last_from p i (drop i ss) own) (sym (add-one own)) }

module _ {ss : List ℕ} {p own last i : ℕ} (s : Looking ss p own last i) where
  ahead : i < length ss → last_from p (suc own) (drop (suc own) ss) own ≡ last_from p (i + 1) (drop (i + 1) ss) (cond (reads (get_or ss i 0) p) i last)
  unfolding last_from
  ahead h = s.left ∙ (ap (λ (l : List ℕ). last_from p i l last) (drop-cons ss i 0 h) ∙ rw add-one)

  pub looking-found : i < length ss → reads (get_or ss i 0) p ≡ true → Looking ss p own i (i + 1)
  looking-found h e = record { most = omega arith; left = ahead h ∙ rw e }

  pub looking_on : i < length ss → reads (get_or ss i 0) p ≡ false → Looking ss p own last (i + 1)
  looking_on h e = record { most = omega arith; left = ahead h ∙ rw e }

  pub looking_end : length ss ≤ i → last ≡ last_from p (suc own) (drop (suc own) ss) own
  unfolding last_from
  looking_end h = sym (s.left ∙ ap (λ (l : List ℕ). last_from p i l last) (drop_of_length-le ss h))
