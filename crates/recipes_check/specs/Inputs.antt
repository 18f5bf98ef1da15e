-- The check's loop over the inputs: what is left to look at decides as the whole does.
use Rattle.std.specs.Prelude.{ℕ, zero, suc, ◌+◌, ◌≤◌, ◌<◌, Bool, true, false, List, [], ◌∷◌, ◌≡◌, refl, length, get_or, drop}
use Rattle.std.proofs.Math.Path.{sym, ap}
use Rattle.std.proofs.Common.{◌∙◌, arith, add-one, drop_of_length-le, drop-cons}
use Rattle.lists.specs.All.{All}
use Rattle.model.specs.Header.{no_header, span}
use Rattle.model.specs.Word.{good_word}
use Rattle.model.specs.Refusals.{ask_for, no_refusal}
use Rattle.model.specs.Gates.{bad_word}
use Rattle.model_recipes.specs.Recipe.{input_heads}
use Rattle.model_recipes.specs.Check.{inputs_refusal}
use Rattle.shape_words.specs.Rules.{Good, none-regular}
use Rattle.shape_words.specs.Words.{good_word_lem}
use Rattle.recipes_kinds.specs.Known.{Known}
use Rattle.recipes_check.specs.Asks.{ask_for-none}

-- the loop that looks at them, after i turns
pub record Looking (hs : List ℕ) (i : ℕ) : Type 0 where
  pub most : i ≤ length hs
  pub left : inputs_refusal 0 hs ≡ inputs_refusal i (drop i hs)

pub looking-none : (hs : List ℕ) → Looking hs 0
looking-none hs = record { most = omega arith; left = refl }

module _ {hs : List ℕ} {i : ℕ} (k : Looking hs i) where
  ahead : i < length hs → inputs_refusal 0 hs ≡ ask_for (good_word (get_or hs i 0)) (bad_word (get_or hs i 0) i) (inputs_refusal (suc i) (drop (suc i) hs))
  unfolding inputs_refusal
  ahead l = k.left ∙ ap (inputs_refusal i) (drop-cons hs i 0 l)

  pub looking-more : {g : Bool} → i < length hs → g ≡ good_word (get_or hs i 0) → g ≡ true → Looking hs (i + 1)
  looking-more {g} l e t = record { most = omega arith; left = ahead l ∙ (rw (sym e ∙ t, add-one i) refl) }

  pub looking-stop : {g : Bool} → i < length hs → g ≡ good_word (get_or hs i 0) → g ≡ false → bad_word (get_or hs i 0) i ≡ inputs_refusal 0 hs
  looking-stop {g} l e t = sym (ahead l ∙ rw (sym e ∙ t) refl)

  pub looking_end : length hs ≤ i → no_refusal ≡ inputs_refusal 0 hs
  unfolding inputs_refusal
  looking_end l = sym (k.left ∙ ap (inputs_refusal i) (drop_of_length-le hs l))

-- where no input is refused
pub first_good : (p w : ℕ) (ws : List ℕ) → (inputs_refusal p (w ∷ ws)).number ≡ 0 → (good_word w ≡ true) × ((inputs_refusal (suc p) ws).number ≡ 0)
unfolding inputs_refusal
first_good p w ws e = ask_for-none (good_word w) (bad_word w p) (inputs_refusal (suc p) ws) (λ z. omega (arith, z)) e

pub none-good : Good no_header
unfolding span
none-good = record { regular = none-regular; most = omega arith }

good-at : (p : ℕ) (hs : List ℕ) → (inputs_refusal p hs).number ≡ 0 → (q : ℕ) → Good (get_or (input_heads hs) q no_header)
unfolding inputs_refusal
good-at p [] e q = none-good
good-at p (w ∷ ws) e zero = good_word_lem w (first_good p w ws e).0
good-at p (w ∷ ws) e (suc q) = good-at (suc p) ws (first_good p w ws e).1 q

pub inputs-good : (hs : List ℕ) → (inputs_refusal 0 hs).number ≡ 0 → All Good no_header (input_heads hs)
inputs-good hs e = record { at = good-at 0 hs e }

pub inputs-known : (hs : List ℕ) → (inputs_refusal 0 hs).number ≡ 0 → Known (input_heads hs)
inputs-known hs e = record { at = λ q. (good-at 0 hs e q).regular }
