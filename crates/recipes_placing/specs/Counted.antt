-- The counts of a recipe's steps, read from the words that they announce; and the new length against the old total.
use Rattle.std.specs.Prelude.{ℕ, suc, ◌+◌, ◌*◌, ◌≤◌, List, [], ◌∷◌, map, ◌≡◌, refl, length, get_or, take, drop}
use Rattle.std.proofs.Common.{sym, ap, ◌∙◌, arith, take_at}
use Rattle.std.proofs.lemmas.List.{length-map}
use Rattle.std.proofs.Math.ListN.{get_or-map}
use Rattle.lists.specs.Grow.{over}
use Rattle.lists.specs.Table.{table, front, length-table, table-all, table_same}
use Rattle.model.specs.declared.Header.{Header}
use Rattle.model.specs.Header.{stored}
use Rattle.model.specs.Word.{header_of}
use Rattle.model_recipes.specs.Recipe.{Recipe, announced_steps, total}
use Rattle.shape_words.specs.Lengths.{lengths_of_lem, count_most}
use Rattle.recipes_kinds.specs.Known.{Known}
use Rattle.recipes_check.specs.Counts.{word_ruled}
use Rattle.model_placing.specs.Placing.{offsets, needed, step_readers, step_counts, pool_needed}
use Rattle.recipes_placing.specs.Placed.{sum_of, needed-most}

-- the counts of words
abbrev pub counts_of : List ℕ → List ℕ
counts_of ws = map stored (map header_of ws)

pub length-counts : (ws : List ℕ) → length (counts_of ws) ≡ length ws
length-counts ws = length-map (map header_of ws) stored ∙ length-map ws header_of

count_at : (ws : List ℕ) (j : ℕ) → get_or (counts_of ws) j (stored (header_of 0)) ≡ stored (header_of (get_or ws j 0))
count_at ws j = get_or-map stored (map header_of ws) j (header_of 0) ∙ ap stored (get_or-map header_of ws j 0)

pub counts-table : (ws : List ℕ) → table (length ws) (λ j. stored (header_of (get_or ws j 0))) ≡ counts_of ws
counts-table ws =
    table_same (λ j. stored (header_of (get_or ws j 0))) (λ j. get_or (counts_of ws) j (stored (header_of 0))) (length ws) (λ j h. sym (count_at ws j))
    ∙ (ap (λ (n : ℕ). table n (λ j. get_or (counts_of ws) j (stored (header_of 0)))) (sym (length-counts ws)) ∙ table-all (stored (header_of 0)) (counts_of ws))

pub counts-front : (ws d : List ℕ) {counts : List ℕ} → counts ≡ front (length ws) (λ j. stored (header_of (get_or ws j 0))) d
    → take (length ws) counts ≡ counts_of ws
counts-front ws d e =
    ap (take (length ws)) e
    ∙ (take_at (table (length ws) (λ j. stored (header_of (get_or ws j 0)))) (drop (length ws) d) (length ws)
    (length-table (λ j. stored (header_of (get_or ws j 0))) (length ws))
    ∙ counts-table ws)

sum-small : (ws : List ℕ) → ((j : ℕ) → stored (header_of (get_or ws j 0)) ≤ 16777216) → sum_of (counts_of ws) ≤ 16777216 * length ws
unfolding sum_of
sum-small [] h = omega arith
sum-small (w ∷ ws) h = omega (arith, h 0, sum-small ws (λ j. h (suc j)))

-- 64 counts fit
pub counts-fit : (ws : List ℕ) → Known (map header_of ws) → length ws ≤ 64 → sum_of (counts_of ws) ≤ 1099511627776
counts-fit ws k l = omega (arith, sum-small ws (λ j. count_most (lengths_of_lem (word_ruled ws k j))))

pub sum-total : (hs : List Header) → sum_of (map stored hs) ≡ total hs
unfolding sum_of total
sum-total [] = refl
sum-total (h ∷ hs) = ap (λ (n : ℕ). stored h + n) (sum-total hs)

-- the second placing needs no more than the first
pub pool-most : (it : Recipe) → pool_needed it ≤ total (announced_steps it)
unfolding pool_needed step_counts
pool-most it = omega (arith, needed-most (step_readers it) (map stored (announced_steps it)), sum-total (announced_steps it))

pub by-counts : (ls d : List ℕ) {cs cs' starts : List ℕ} {top : ℕ} → cs ≡ cs' → (starts ≡ over (offsets ls cs) d) × (top ≡ needed ls cs)
    → (starts ≡ over (offsets ls cs') d) × (top ≡ needed ls cs')
by-counts ls d e h = rw e at h
