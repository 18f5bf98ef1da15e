-- What rests on laws of specs/ (Stages).
use Rattle.std.specs.Prelude.{List, ℕ, zero, suc}
use Rattle.model.specs.Poly.{Block}
use Rattle.model.specs.Linear.{linear}
use Rattle.model.specs.Product.{constant_block, linear_product, product_of}
use Rattle.model_textbook.specs.Textbook.{Series, times}
use Rattle.laws_keeps.specs.Sits.{Sits, sits-more}
use Rattle.laws_keeps.specs.ProductKeeps.{shape-under, constant-sits}
use Rattle.laws_keeps.proofs.ProductKeeps.{product-sits}
use Rattle.laws_exact.specs.Factors.{constant_of}
use Rattle.laws_exact.specs.Generals.{Fits, general-is}
use Rattle.laws_exact.specs.Wholes.{Is}
use Rattle.laws_keeps.specs.Ways.{by_way, by-way_or-line, Line, linear-is}
use Rattle.laws_exact.specs.Constants.{constant-is}
use Rattle.laws_exact.specs.Lines.{line-constant}
use Rattle.laws_exact.proofs.Lines.{linear_product_lem}
use Rattle.laws_exact.specs.Stages.{fits-comm, fits-constant, shortcut-is, swapped}

-- a line times x, given the product of x by the line's constant
pub line_way_lem : (stage : ℕ) {l : List ℕ} {a x : Block} {A X : Series} → Sits l a → Sits l x → Is l a A → Is l x X → Fits l A X → Line a (linear a)
    → Is l (product_of stage l x (constant_block (linear a).c)) (times X (constant_of A))
    → Is l (linear_product (λ y. product_of stage l y (constant_block (linear a).c)) l (linear a) x) (times A X)
line_way_lem stage {l} {a} {x} {A} s t p q r i given =
    linear_product_lem (λ y. product_of stage l y (constant_block (linear a).c)) (linear a) i s t p q r
    (sits-more (shape-under l _ _) (product-sits stage t (constant-sits (linear a).c t))) given

pub product_is : (stage : ℕ) {l : List ℕ} {a b : Block} {A B : Series} → Sits l a → Sits l b → Is l a A → Is l b B
    → Fits l A B → Is l (product_of stage l a b) (times A B)
product_is zero {l} s t p q r = by_way l (shortcut-is s t p q r) (general-is s t p q r)
product_is (suc stage) {l} {a} {b} {A} {B} s t p q r =
    by-way_or-line l (shortcut-is s t p q r) (general-is s t p q r)
    (record {
      left_linear = λ e.
          let i = linear-is a e in
          line_way_lem stage s t p q r i (product_is stage t (constant-sits _ t) q (constant-is A (line-constant i s p)) (fits-constant r));
      right_linear = λ e.
          let i = linear-is b e in
          swapped A B (line_way_lem stage t s q p (fits-comm r) i
          (product_is stage s (constant-sits _ s) p (constant-is B (line-constant i t q))
          (fits-constant (fits-comm r))));
    })
