-- The loops that add up counts, and look for the largest.
use Prim.Native.Nat.{ℕ, ◌+◌, ◌*◌, ◌^◌, ◌≤◌, ◌<◌, max}
use mathlib.Core.List.{List, map}
use Rattle.std.specs.Prelude.{◌≡◌, length, get_or, drop}
use Rattle.std.proofs.Math.Path.{ap}
use Rattle.std.proofs.Common.{arith, add-one, drop_of_length-le, drop-cons}
use Rattle.model.specs.declared.Header.{Header}
use Rattle.model.specs.Header.{stored}
use Rattle.model.specs.Word.{header_of}
use Rattle.model_recipes.specs.Recipe.{total, largest}
use Rattle.shape_words.specs.Lengths.{lengths_of_lem, count_most}
use Rattle.shape_words.specs.Rules.{Ruled}
use Rattle.recipes_kinds.specs.Known.{Known, head_at_lem}

-- the headers from word i on
abbrev rest : ℕ → List ℕ → List Header
rest i ws = map header_of (drop i ws)

-- the word number i keeps the rules
pub word_ruled : (ws : List ℕ) → Known (map header_of ws) → (i : ℕ) → Ruled (header_of (get_or ws i 0))
word_ruled ws g i = rw (head_at_lem ws i) at (g.at i).rules

-- after i turns
pub record Summed (ws : List ℕ) (sum i : ℕ) : Type 0 where
  pub most : i ≤ length ws
  pub small : sum ≤ 16777216 * i
  pub left : total (map header_of ws) ≡ sum + total (rest i ws)

pub summed-none : (ws : List ℕ) → Summed ws 0 0
summed-none ws = record { most = omega arith; small = omega arith; left = omega arith }

module _ {ws : List ℕ} {sum i : ℕ} (s : Summed ws sum i) where
  pub summed-more : {n : ℕ} → Known (map header_of ws) → i < length ws → n ≡ stored (header_of (get_or ws i 0)) → Summed ws (sum + n) (i + 1)
  unfolding total
  summed-more {n} g l e =
      let more : total (rest i ws) ≡ stored (header_of (get_or ws i 0)) + total (rest (i + 1) ws) =
      rw (add-one i) (ap (λ (x : List ℕ). total (map header_of x)) (drop-cons ws i 0 l)) in
      record { most = omega arith; small = omega (arith, s.small, count_most (lengths_of_lem (word_ruled ws g i))); left = omega (arith, s.left, more) }

  pub summed-fits : {n : ℕ} → Known (map header_of ws) → length ws ≤ 64 → n ≡ stored (header_of (get_or ws i 0)) → sum + n < 2 ^ 64
  summed-fits {n} g m e = omega (arith, s.small, s.most, count_most (lengths_of_lem (word_ruled ws g i)))

  pub summed_end : length ws ≤ i → sum ≡ total (map header_of ws)
  unfolding total
  summed_end l =
      let none : total (rest i ws) ≡ 0 = ap (λ (x : List ℕ). total (map header_of x)) (drop_of_length-le ws l) in
      omega (arith, s.left, none)

pub record Topped (ws : List ℕ) (top i : ℕ) : Type 0 where
  pub most : i ≤ length ws
  pub left : largest (map header_of ws) ≡ max top (largest (rest i ws))

pub topped-none : (ws : List ℕ) → Topped ws 0 0
topped-none ws = record { most = omega arith; left = omega arith }

module _ {ws : List ℕ} {top i : ℕ} (s : Topped ws top i) where
  pub topped-more : {n r : ℕ} → i < length ws → n ≡ stored (header_of (get_or ws i 0)) → r ≡ max top n → Topped ws r (i + 1)
  unfolding largest
  topped-more {n} {r} l e f =
      let more : largest (rest i ws) ≡ max (stored (header_of (get_or ws i 0))) (largest (rest (i + 1) ws)) =
      rw (add-one i) (ap (λ (x : List ℕ). largest (map header_of x)) (drop-cons ws i 0 l)) in
      record { most = omega arith; left = omega (arith, s.left, more) }

  pub topped_end : length ws ≤ i → top ≡ largest (map header_of ws)
  unfolding largest
  topped_end l =
      let none : largest (rest i ws) ≡ 0 = ap (λ (x : List ℕ). largest (map header_of x)) (drop_of_length-le ws l) in
      omega (arith, s.left, none)
