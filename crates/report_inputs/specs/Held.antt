-- The inputs of a sheet and their coefficients, end to end: where those of an input lie.
use Rattle.std.specs.Prelude.{ℕ, zero, suc, ◌+◌, ◌-◌, ◌≤◌, ◌<◌, List, [], ◌∷◌, ◌≡◌, refl, Float, length, get_or, take, drop}
use Rattle.std.proofs.Common.{sym, ap, ◌∙◌, arith, length-take, length-drop, take_all}
use Rattle.lists.specs.All.{all_take}
use Rattle.model.specs.declared.Header.{Header}
use Rattle.model.specs.Word.{header_of}
use Rattle.model_recipes.specs.Recipe.{input_heads, total}
use Rattle.model.specs.Header.{no_header, stored}
use Rattle.model_figures.specs.Inputs.{input_lines, input_text}
use Rattle.shape_words.specs.Rules.{Regular, Ruled, none-regular}
use Rattle.recipes_kinds.specs.Known.{Known}
use Rattle.recipes_check.specs.Counts.{word_ruled}

-- hs the header words, n coefficients in all
pub record Held (hs : List ℕ) (n : ℕ) : Type 0 where
  pub known : Known (input_heads hs)
  pub few : length hs ≤ 16
  pub full : total (input_heads hs) ≤ n
  pub small : n ≤ 2048

-- the coefficients of an input, behind those of the inputs before it
pub held_at : (hs : List ℕ) (i : ℕ) → i < length hs → total (input_heads (take i hs)) + stored (header_of (get_or hs i 0)) ≤ total (input_heads hs)
unfolding total
held_at [] i l = absurd (omega arith)
held_at (w ∷ hs) zero l = omega arith
held_at (w ∷ hs) (suc i) l = let h = held_at hs i (omega arith) in omega arith

heads-take : (hs : List ℕ) (i : ℕ) → take i (input_heads hs) ≡ input_heads (take i hs)
heads-take [] zero = refl
heads-take [] (suc i) = refl
heads-take (w ∷ hs) zero = refl
heads-take (w ∷ hs) (suc i) = ap (λ (l : List Header). header_of w ∷ l) (heads-take hs i)

module _ {hs : List ℕ} {n : ℕ} (d : Held hs n) (i : ℕ) where
  pub front-known : Known (input_heads (take i hs))
  front-known = rw (heads-take hs i) at (all_take Regular no_header none-regular i d.known)

  pub front-few : length (take i hs) ≤ 64
  front-few = omega (arith, length-take i hs, d.few)

  pub front-full : i < length hs → total (input_heads (take i hs)) + stored (header_of (get_or hs i 0)) ≤ n
  front-full l = omega (arith, held_at hs i l, d.full)

  pub ruled : Ruled (header_of (get_or hs i 0))
  ruled = word_ruled hs d.known i

-- the coefficients from a place on
pub rest-is : (xs : List Float) (n : ℕ) → take (length xs - n) (drop n xs) ≡ drop n xs
rest-is xs n = take_all (length xs - n) (drop n xs) (omega (arith, length-drop n xs))

pub rest-length : (xs : List Float) (n : ℕ) → length (take (length xs - n) (drop n xs)) ≡ length xs - n
rest-length xs n = ap length (rest-is xs n) ∙ length-drop n xs

-- the input i, by what is read of it
pub input-is : (hs : List ℕ) (xs : List Float) (i : ℕ) {h : Header} {from : ℕ} → h ≡ header_of (get_or hs i 0)
    → from ≡ total (input_heads (take i hs)) → input_text hs xs i ≡ input_lines i h (take (length xs - from) (drop from xs))
unfolding input_text
input-is hs xs i {h} {from} eh ef = rw (← eh, ← ef) (ap (input_lines i h) (sym (rest-is xs from)))
