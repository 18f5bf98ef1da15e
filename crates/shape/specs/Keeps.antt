-- What every operation owes of its result, in the one form that a run needs: the true header keeps the rules, has
-- exactly the announced limits and no length above the announced one, and there are as many coefficients as it says.
use Rattle.std.specs.Prelude.{◌≡◌, refl, List, [], ◌∷◌, length, Float, ℕ}
use Rattle.std.proofs.Common.{le_trans, arith}
use Rattle.model.specs.declared.Header.{Header}
use Rattle.model.specs.Header.{stored, no_header, span, ones, with_lengths}
use Rattle.model.specs.Poly.{Poly, poly}
use Rattle.model.specs.declared.Family.TheVariants.{One}
use Rattle.model.specs.Announced.{announced, single}
use Rattle.model.specs.Constructed.{constant}
use Rattle.shape_words.specs.Rules.{Regular, Good, none-regular, GoodVar, ruled-at}
use Rattle.shape.specs.Announced.{single-regular}
use Rattle.shape.specs.Under.{Under, under_same, count_under}
use Rattle.lists.specs.Four.{at-four}

-- h the announced header
pub record Keeps (h : Header) (p : Poly) : Type 0 where
  pub regular : Regular p.head
  pub under : Under p.head h
  pub full : length p.coeffs ≡ stored p.head

-- under a good announced header the true one is good
pub keeps-good : {h : Header} {p : Poly} → Good h → Keeps h p → Good p.head
keeps-good g k = record { regular = k.regular; most = le_trans (count_under k.under) g.most }

-- a constant without variables
pub none-keeps : (x : Float) → Keeps no_header (constant no_header x)
unfolding span
none-keeps x = record { regular = none-regular; under = under_same no_header; full = refl }

-- one number with the operand's limits
pub one-keeps : (x : Float) {h : Header} → Regular h → Keeps (announced One h no_header) (constant (announced One h no_header) x)
unfolding announced single span
one-keeps x g = record { regular = single-regular One g.rules; under = under_same _; full = refl }

-- a header with all lengths 1
ones-var : {v k l n : ℕ} → GoodVar v k l n → GoodVar v k l 1
ones-var g = record { pos = omega arith; fit = omega arith; most = g.most; gone = g.gone }

pub ones-keeps : {h : Header} (x : Float) → Regular h → Keeps h (poly (with_lengths h ones) (x ∷ []))
unfolding span
ones-keeps {h} x r =
    let g = r.rules in
    record {
      regular =
          record {
            rules =
                record {
                  few = g.few;
                  v0 = ones-var g.v0;
                  v1 = ones-var g.v1;
                  v2 = ones-var g.v2;
                  v3 = ones-var g.v3;
                  low = g.low;
                };
            ls = r.ls;
            ns = refl;
          };
      under = record { vars = refl; limits = refl; most = λ k p. rw (at-four (λ k. 1) k p) (ruled-at g k p).pos; cap = refl };
      full = refl;
    }

-- a header that is filled
pub full-keeps : {h : Header} {a : List Float} → Regular h → length a ≡ stored h → Keeps h (poly h a)
full-keeps {h} r e = record { regular = r; under = under_same h; full = e }
