-- Which way a substitution goes, and its value.
use Rattle.std.specs.Prelude.{ℕ, List, ◌&&◌, cond, ltb, eqb}
use Rattle.std.specs.Float.Ieee.{eq}
use Rattle.model.specs.declared.Linear.{Linear}
use Rattle.substitution_way.specs.declared.Way.{Way}
use Rattle.substitution_way.specs.declared.Way.TheVariants.{Same, Zero, Powers, Horner}
use Rattle.model.specs.Refusals.{zero_f}
use Rattle.model.specs.Poly.{Block}
use Rattle.model.specs.Linear.{no_linear, linear}
use Rattle.model.specs.Product.{is_zero}
use Rattle.model.specs.Substitute.{substituted}

-- the number of a way: 0 the variable is not there, 1 b is zero, 2 b is linear in v with c zero, 3 Horner
abbrev pub kind_of : Way → ℕ
kind_of Same = 0
kind_of Zero = 1
kind_of (Powers l) = 2
kind_of Horner = 3

-- the line that b is, of the way 2
abbrev pub line_of : Way → Linear
line_of Same = no_linear
line_of Zero = no_linear
line_of (Powers l) = l
line_of Horner = no_linear

-- Which way b goes for v, of `vars` variables; with the line.
unfoldable pub way_of : ℕ → ℕ → Block → Way
way_of vars v b =
    let line = linear b in
    cond (ltb v vars)
    (cond (is_zero b) Zero
    (cond ((line.yes && eqb line.variable v) && eq line.c zero_f) (Powers line)
    Horner))
    Same

-- the value, where a has `vars` variables
unfoldable pub put_for : ℕ → List ℕ → ℕ → Block → Block → Block
put_for vars l v a b = cond (ltb v vars) (substituted l v a b) a
