-- What rests on laws of specs/ (Divided).
use Rattle.std.specs.Prelude.{◌≡◌, List, ℕ, ◌≤◌, ◌<◌, nat_abs}
use Rattle.lists.specs.Test.{decide}
use Rattle.lists.specs.Four.{at}
use Rattle.model.specs.Poly.{Block}
use Rattle.model.specs.Product.{is_constant, is_one}
use Rattle.model.specs.Quotient.{quotient_of, divided}
use Rattle.model_textbook.specs.Textbook.{Series, origin, quotient}
use Rattle.laws_keeps.specs.Sits.{Sits, cut-sits}
use Rattle.laws_exact.specs.Wholes.{Is, cut-is}
use Rattle.laws_exact.specs.Generals.{Fits}
use Rattle.laws_exact_quotient.proofs.Recurred.{recurred-is}
use Rattle.laws_exact_quotient.specs.Divided.{over-constant, over-one}

module _ {l : List ℕ} {a b : Block} {A B : Series} (s : Sits l a) (t : Sits l b) (p : Is l a A) (q : Is l b B) (unit : nat_abs (B origin) ≡ 1)
    (room : Fits l (quotient A B) B) where
  -- blocks that are cut already
  pub quotient_is : Is l (quotient_of l a b) (quotient A B)
  unfolding quotient_of
  quotient_is =
      decide (is_one b)
      (λ e. rw e ((over-one s t p q unit room) e))
      (λ e. rw e (decide (is_constant b) (λ c. rw c ((over-constant s t p q unit room) c)) (λ c. rw c (recurred-is s t p q unit room))))

pub divided-is : {l : List ℕ} {a b : Block} {A B : Series} → ((k : ℕ) → k < 4 → 1 ≤ at l k) → Sits a.lengths a → Sits b.lengths b → Is l a A → Is l b B
    → nat_abs (B origin) ≡ 1 → Fits l (quotient A B) B → Is l (divided l a b) (quotient A B)
unfolding divided
divided-is {l} {a} {b} pos_l s t p q = quotient_is (cut-sits l a pos_l s.lo) (cut-sits l b pos_l t.lo) (cut-is p) (cut-is q)
