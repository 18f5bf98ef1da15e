-- A block under a cap (document 02, W10): no cap changes nothing; a coefficient under the cap is as it was, the others
-- are +0.0; twice is once; and what is a series under the limits is, under the cap, that series cut by it. The last is
-- all that exactness asks: an exact result, capped, is the exact result cut by box and cap.
use Rattle.std.specs.Prelude.{◌≡◌, refl, Bool, true, false, cond, List, ℕ, ◌<◌, ltb, eqb, length, get_or, Float}
use Rattle.std.proofs.Common.{sym, ap, ◌∙◌}
use Rattle.std.specs.Float.{nan}
use Rattle.lists.specs.Test.{decide}
use Rattle.lists.specs.Table.{table, table_at, table_same, table-all, length-table}
use Rattle.lists.specs.Four.{at}
use Rattle.model.specs.Header.{count}
use Rattle.model.specs.Places.{place, index, inside}
use Rattle.model_textbook.specs.Box.{degree}
use Rattle.model.specs.Refusals.{zero_f}
use Rattle.model.specs.Poly.{Block, block, read_at, coefficient_at}
use Rattle.model_textbook.specs.Textbook.{Series}
use Rattle.model_caps.specs.Cap.{under_cap, capped_at, capped_places, capped, cut_at}
use Rattle.laws_whole.specs.Whole.{whole-zero}
use Rattle.laws_whole.specs.IndexLaws.{four_at_lem}
use Rattle.shape_words.specs.Lengths.{inside_is}
use Rattle.shape_words.specs.Places.{index-place}
use Rattle.laws_keeps.specs.Sits.{Sits}
use Rattle.laws_exact.specs.Wholes.{Is, table-read}

-- no cap
pub capped-none : (b : Block) → capped 0 b ≡ b
unfolding capped_places
capped-none b = refl

abbrev Full : Block → Type 0
Full b = length b.places ≡ count b.lengths

pub capped-full : (c : ℕ) (b : Block) → Full b → Full (capped c b)
unfolding capped_places
capped-full c b f = decide (eqb c 0) (λ t. rw t f) (λ t. rw t (length-table (capped_at c b.lengths b.places) (count b.lengths)))

pub capped-sits : (c : ℕ) {r : List ℕ} {b : Block} → Sits r b → Sits r (capped c b)
capped-sits c {r} {b} s = record { ns = s.ns; lo = s.lo; hi = s.hi; full = capped-full c b s.full }

-- one place
pub capped_at_lem : (c : ℕ) (n : List ℕ) (a : List Float) (p : ℕ) → p < count n
    → get_or (capped_places c n a) p nan ≡ cond (under_cap c (index n p)) (get_or a p nan) zero_f
unfolding capped_places
capped_at_lem c n a p h =
    decide (eqb c 0)
    (λ t. rw t)
    (λ t. rw t (table_at nan (capped_at c n a) (count n) p h))

pub capped-under : (c : ℕ) (n : List ℕ) (a : List Float) (p : ℕ) → p < count n → under_cap c (index n p) ≡ true → get_or (capped_places c n
    a) p nan ≡ get_or a p nan
capped-under c n a p h u = capped_at_lem c n a p h ∙ rw u

-- blocks that agree under the cap
pub capped_same : (c : ℕ) (n : List ℕ) (x y : List Float) → length x ≡ count n → length y ≡ count n
    → ((p : ℕ) → p < count n → under_cap c (index n p) ≡ true → get_or x p nan ≡ get_or y p nan) → capped_places c n x ≡ capped_places c n y
unfolding capped_places
capped_same c n x y f g h =
    decide (eqb c 0)
    (λ t. rw t
    (sym (table-all nan x)
    ∙ ap (λ (m : ℕ). table m (λ p. get_or x p nan)) f
    ∙ table_same _ _ (count n) (λ p l. h p l (rw t))
    ∙ ap (λ (m : ℕ). table m (λ p. get_or y p nan)) (sym g)
    ∙ table-all nan y))
    (λ t. rw t (table_same _ _ (count n) (λ p l.
    decide (ltb (degree (index n p)) c) (λ u. rw u (h p l (rw (t, u)))) (λ u. rw u))))

pub capped_twice : (c : ℕ) (b : Block) → Full b → capped c (capped c b) ≡ capped c b
capped_twice c b f =
    ap (block b.lengths) (capped_same c b.lengths (capped_places c b.lengths b.places) b.places (capped-full c b f) f
    (λ p l u. capped-under c b.lengths b.places p l u))

-- ---- coefficients

choose-zero : (t : Bool) → zero_f ≡ cond t zero_f zero_f
choose-zero true = refl
choose-zero false = refl

pub capped-coefficient : (c : ℕ) (b : Block) (k : List ℕ) → length k ≡ 4 → coefficient_at (capped c b) k ≡ cond (under_cap c k) (coefficient_at b k) zero_f
unfolding coefficient_at capped_places
capped-coefficient c b k f =
    let n = b.lengths in
    decide (eqb c 0)
    (λ t. rw t)
    (λ t. rw t (decide (inside n k)
    (λ i. rw i (table-read n (count n) (capped_at c n b.places) k refl (inside_is n k i) ∙ ap (λ (j : List ℕ). cond (ltb (degree j) c) (read_at b k) zero_f)
    (index-place n k (inside_is n k i) ∙ sym (four_at_lem k f))))
    (λ i. rw i (choose-zero (ltb (degree k) c)))))

-- ---- exactness: one law for every operation

pub capped_is : (c : ℕ) {l : List ℕ} {b : Block} {A : Series} → Is l b A → Is l (capped c b) (cut_at c A)
unfolding cut_at
capped_is c {l} {b} {A} s = record {
  at = λ k f i. rw (capped-coefficient c b k f) (decide (under_cap c k) (λ t. rw t (s.at k f i)) (λ t. rw t whole-zero));
}
