-- The first place that takes more than 256 coefficients, and what is said of it or of the totals.
use Rattle.std.specs.Prelude.{ℕ, suc, ◌-◌, ◌*◌, ◌≤◌, ◌<◌, true, false, List, [], ◌∷◌, map, ◌≡◌, length, get_or, take, drop}
use Rattle.std.proofs.Common.{sym, ap, ◌∙◌, arith, length-take-le}
use Rattle.std.proofs.Math.ListN.{length-map}
use borrow.Author.Tests.{le-leb, lt-leb}
use Rattle.model.specs.declared.Header.{Header}
use Rattle.model.specs.Header.{no_header, stored}
use Rattle.model.specs.Word.{header_of}
use Rattle.model_recipes.specs.Recipe.{head_at, total}
use Rattle.model_faults.specs.Own.{large_fault, totals_fault, small_at, first_large, own_fault}
use Rattle.recipes_kinds.specs.Known.{Known, head_at_lem}
use Rattle.shape_words.specs.Lengths.{lengths_of_lem, count_most}
use Rattle.sheet_limits.specs.Limits.{front-heads, back-heads, front-known}
use Rattle.report_say.specs.First.{Looking, front-stop, front_end}

-- the words of all places
module _ (ws : List ℕ) where
  abbrev hs : List Header
  hs = map header_of ws

  -- the count n of the word number p
  module _ (p : ℕ) {n : ℕ} (en : n ≡ stored (header_of (get_or ws p 0))) where
    count_at : stored (head_at hs p) ≡ n
    count_at = ap stored (head_at_lem ws p) ∙ sym en

    pub small_at_lem : n ≤ 256 → small_at hs p ≡ true
    small_at_lem l = rw count_at (le-leb n 256 l)

    pub large-at : 256 < n → small_at hs p ≡ false
    large-at l = rw count_at (lt-leb n 256 l)

    pub own_large : (k : ℕ) {c : ℕ} → p ≡ first_large hs → p < length ws → c ≡ total (map header_of (take k ws)) → large_fault k c p n ≡ own_fault hs k
    unfolding own_fault
    own_large k {c} ep l ec =
        rw (← ep, length-map ws header_of, lt-leb (length ws) p l, count_at, ← front-heads ws k, ← ec)

  pub large-stop : {p : ℕ} → Looking (small_at hs) (length ws) 0 p → p < length ws → small_at hs p ≡ false → p ≡ first_large hs
  unfolding first_large
  large-stop s l e = rw (length-map ws header_of) (front-stop s l e)

  pub large_end : {p : ℕ} → Looking (small_at hs) (length ws) 0 p → length ws ≤ p → p ≡ first_large hs
  unfolding first_large
  large_end s l = rw (length-map ws header_of) (front_end s l)

  pub own-totals : (k : ℕ) {c d p : ℕ} → p ≡ first_large hs → length ws ≤ p → c ≡ total (map header_of (take k ws))
      → d ≡ total (map header_of (take (length ws - k) (drop k ws))) → totals_fault c d ≡ own_fault hs k
  unfolding own_fault
  own-totals k {c} {d} {p} ep l ec ed =
      rw (← ep, length-map ws header_of, le-leb (length ws) p l, ← front-heads ws k, ← back-heads ws k, ← ec, ← ed)

-- each count is at most 64 times 64 times 64 times 64
counts-most : (known : List Header) → ((p : ℕ) → stored (get_or known p no_header) ≤ 16777216) → total known ≤ 16777216 * length known
unfolding total
counts-most [] g = omega arith
counts-most (h ∷ known) g = omega (arith, g 0, counts-most known (λ p. g (suc p)))

pub known-most : {known : List Header} → Known known → total known ≤ 16777216 * length known
known-most {known} g = counts-most known (λ p. count_most (lengths_of_lem (g.at p).rules))

pub front-most : (ws : List ℕ) (k : ℕ) → Known (map header_of ws) → k ≤ length ws → total (map header_of (take k ws)) ≤ 16777216 * length ws
front-most ws k g l =
    let m = known-most (front-known ws k g) in
    omega (arith, m, length-map (take k ws) header_of, length-take-le k ws l)
