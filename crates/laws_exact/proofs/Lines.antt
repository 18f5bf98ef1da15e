-- What rests on laws of specs/ (Lines).
use Rattle.std.specs.Prelude.{◌≡◌, List, ℕ, ◌-◌, ◌*◌, length, ℤ, ◌+ℤ◌, ◌*ℤ◌}
use Rattle.std.proofs.Math.Path.{sym, ap}
use Rattle.std.proofs.Common.{◌∙◌, le_trans}
use Rattle.std.proofs.Math.Bool.{false}
use Rattle.std.proofs.Math.IntN.{pos, +ℤ_idr, zero-*ℤ}
use Rattle.std.specs.Float.Ieee.{eq}
use Rattle.lists.specs.Test.{decide}
use Rattle.lists.specs.Four.{at}
use Rattle.model.specs.declared.Linear.{Linear}
use Rattle.model.specs.Refusals.{zero_f}
use Rattle.model.specs.Poly.{Block}
use Rattle.model.specs.Linear.{line_of}
use Rattle.model.specs.Product.{raised, linear_product}
use Rattle.model_textbook.specs.Textbook.{Series, times, origin}
use Rattle.laws_whole.specs.Whole.{Whole}
use Rattle.laws_whole.specs.Compare.{eq-zero}
use Rattle.laws_whole.specs.IndexLaws.{within-length}
use Rattle.laws_whole.specs.SeriesLaws.{times-comm}
use Rattle.laws_whole.specs.SeriesSizes.{abs-times}
use Rattle.shape_words.specs.Lengths.{Inside}
use Rattle.laws_keeps.specs.Sits.{Sits}
use Rattle.laws_keeps.specs.Ways.{Line}
use Rattle.laws_exact.specs.Factors.{unit, raised_z, constant_of, times-constant_of_lem}
use Rattle.laws_exact.proofs.Factors.{times-line}
use Rattle.laws_exact.specs.Generals.{Fits, before}
use Rattle.laws_exact.specs.Wholes.{Is, is_same_lem}
use Rattle.laws_exact.specs.Joins.{joined_is}
use Rattle.laws_exact.specs.Raised.{raised_is}
use Rattle.laws_exact.specs.Lines.{line-constant, line-only, line_factor, small, up-sits}

-- a line times x, given the product of x by the line's constant
module _ {l : List ℕ} {a x : Block} {A X : Series} (by_c : Block → Block) (line : Linear) (i : Line a line)
    (s : Sits l a) (t : Sits l x) (p : Is l a A) (q : Is l x X) (room : Fits l A X) where
  abbrev v : ℕ
  v = line.variable

  factor : Whole line.m (A (unit v))
  unfolding line_of
  factor = rw (ap (λ (x : Linear). x.m) i.is) (line_factor s p v i.var i.fits)

  pub exact : (k : List ℕ) → length k ≡ 4 → Inside l k → times A X k ≡ raised_z v (A (unit v)) X k +ℤ times X (constant_of A) k
  exact k f j = times-line A X k f v i.var (λ d w o u. line-only s p v i.var i.fits d (within-length w ∙ f) (before w j) o u)

  pub up : Is l (raised l v line.m x) (raised_z v (A (unit v)) X)
  up = raised_is v i.var t q factor (small by_c line i s t p q room)

  pub linear_product_lem : Sits l (by_c x) → Is l (by_c x) (times X (constant_of A)) → Is l (linear_product by_c l line x) (times A X)
  unfolding linear_product
  linear_product_lem u c =
      decide (eq line.c zero_f)
      (λ e.
      let z : A origin ≡ pos 0 = (eq-zero (line-constant i s p)).0 e in
      rw e (is_same_lem (λ k f j. sym (exact k f j
      ∙ ap (λ (y : ℤ). raised_z v (A (unit v)) X k +ℤ y)
      (times-comm X (constant_of A) k ∙ times-constant_of_lem A X k f ∙ ap (λ (y : ℤ). y *ℤ X k) z ∙ zero-*ℤ (X k))
      ∙ +ℤ_idr _)) up))
      (λ e. rw e (is_same_lem (λ k f j. sym (exact k f j))
      (joined_is false (up-sits by_c line i s t p q room) u up c (record {
        left = (small by_c line i s t p q room);
        both = λ k f j. rw
            (← exact k f j) (le_trans (abs-times A X k) (room.at k f j));
      }))))
