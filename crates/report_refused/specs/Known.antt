-- What is said of a recipe that is refused, from the words that its places announce.
use Rattle.std.specs.Prelude.{ℕ, ◌+◌, ◌-◌, ◌≤◌, ◌<◌, cond, ◌≡◌, refl, ltb}
use mathlib.Core.List.{List, ◌++◌, map}
use Rattle.std.proofs.Math.Path.{ap}
use Rattle.std.proofs.Common.{◌∙◌, arith, length-take-le}
use Rattle.std.proofs.Math.ListN.{length, take, length-map}
use Rattle.lists.specs.Chain.{chain, chain-take}
use Rattle.lists.specs.Grow.{over, length_over, take-over}
use Rattle.lists.specs.Test.{decide}
use borrow.Author.Tests.{ltb-true}
use Rattle.model.specs.declared.Header.{Header}
use Rattle.model.specs.declared.Refusal.{Refusal}
use Rattle.model.specs.Word.{header_of}
use Rattle.model_recipes.specs.Recipe.{recipe_of, announced_step, input_heads, announced_places, total}
use Rattle.model_texts.specs.Sheet.{input_count, step_count, sheet_steps, sheet_recipe, coefficient_count}
use Rattle.model_texts.specs.Trace.{step_word}
use Rattle.model_faults.specs.Own.{where_text, line_of, own_fault}
use Rattle.model_faults.specs.Fault.{step_cause, place_fault, recipe_fault}
use Rattle.recipes_kinds.specs.Known as announced
use Rattle.recipes_check.specs.Judging.{heads, Ready}
use Rattle.sheet_limits.specs.Limits.{front-heads}
use Rattle.sheet_solving.specs.Opened.{headers-many, steps-many}
use Rattle.sheet_solving.specs.Running.{Opening}
use Rattle.sheet_solving.specs.Ended.{opening-few, opening-fit, opening-known, opening-count, opening-small}
use Rattle.report_lines.specs.Puts.{Puts}
use Rattle.report_causes.specs.Announced.{Announced}
use Rattle.report_refused.specs.Placed.{Placed}

-- the first k places are inputs, with c coefficients together; ss the step words, ws the words that all places announce
unfoldable pub known_fault : Refusal → ℕ → ℕ → List ℕ → List ℕ → List ℕ
known_fault r k c ss ws =
    let p = r.place in
    cond (ltb p 64) (where_text (line_of k c p) k p ++ step_cause r.number (step_word ss k p) p (map header_of (take p ws))) (own_fault (map header_of ws) k)

pub record Known (r : Refusal) (k c : ℕ) (ss ws : List ℕ) : Type 0 where
  pub placed : Placed k (length ss) r
  pub many : length ws ≡ k + length ss
  pub few : k + length ss ≤ 64
  pub small : c ≤ 65536
  pub regular : announced.Known (map header_of ws)

-- what is said is the sheet's
module _ {t hs ss : List ℕ} {ed : ℕ} (ws : List ℕ) (o : Opening t hs ed) (es : ss ≡ sheet_steps t)
    (ew : map header_of ws ≡ announced_places (recipe_of ed hs ss)) where
  -- what the places before the place p announce
  before : (p : ℕ) → length hs ≤ p → p < length hs + length ss → map header_of (take p ws) ≡ announced_places (recipe_of ed hs (take (p - length hs) ss))
  unfolding announced_places
  before p a b =
      let e : p ≡ length (input_heads hs) + (p - length hs) = omega (arith, length-map hs header_of) in
      front-heads ws p
      ∙ (ap (take p) ew
      ∙ (ap (λ (q : ℕ). take q (chain (announced_step ed) (input_heads hs) ss)) e
      ∙ chain-take (announced_step ed) (input_heads hs) ss (p - length hs) (omega arith)))

  pub known_is : {r : Refusal} {c : ℕ} → Placed (length hs) (length ss) r → c ≡ total (map header_of hs) → known_fault r (length hs) c ss ws ≡ recipe_fault t r
  unfolding known_fault recipe_fault place_fault sheet_recipe
  known_is {r} {c} q ec =
      let k : length hs ≡ input_count t = ap length o.headers ∙ headers-many t in
      let n : c ≡ coefficient_count t = ec ∙ opening-count o in
      decide (ltb r.place 64)
      (λ b.
      let l : r.place < 64 = ltb-true r.place 64 b in
      rw (b, before r.place (q.from l) (q.to l), n, ← es, ← o.headers, ← o.edition, ← k) refl)
      (λ b. rw (b, ew, ← es, ← o.headers, ← o.edition, ← k) refl)

-- the words of the inputs hs stand in front of `mid`
module _ {t hs : List ℕ} {ed : ℕ} (o : Opening t hs ed) (old : List ℕ) {mid : List ℕ} (m : 64 ≤ length old) (e : mid ≡ over hs old) where
  mid-heads : heads (length hs) mid ≡ input_heads hs
  mid-heads = ap (map header_of) (ap (take (length hs)) e ∙ take-over hs old (length hs) refl)

  pub mid_len : length mid ≡ length old
  mid_len = ap length e ∙ length_over hs old (omega (arith, opening-few o))

  pub steps-ready : {ss : List ℕ} → ss ≡ sheet_steps t → Ready ss (length hs) mid
  steps-ready es =
      record {
        fit = omega (arith, ap length es ∙ steps-many t, opening-fit o);
        room = omega (arith, mid_len);
        regular = rw mid-heads (opening-known o);
      }

  -- and those of the steps ss are noted behind them
  module _ {ss new : List ℕ} {end : ℕ} (es : ss ≡ sheet_steps t) (a : Announced ed ss (length hs) mid new) (ee : end ≡ length hs + step_count t) where
    many-steps : length ss ≡ step_count t
    many-steps = ap length es ∙ steps-many t

    all-places : end ≡ length hs + length ss
    all-places = omega (arith, ee, many-steps)

    pub new-room : end ≤ length new
    new-room = omega (arith, ee, opening-fit o, a.len, mid_len)

    pub new-places : map header_of (take end new) ≡ announced_places (recipe_of ed hs ss)
    unfolding announced_places
    new-places = rw all-places (a.noted ∙ ap (λ (known : List Header). chain (announced_step ed) known ss) mid-heads)

    pub new-known : {r : Refusal} {c : ℕ} → Placed (length hs) (step_count t) r → c ≡ total (map header_of hs) → Known r (length hs) c ss (take end new)
    new-known p ec =
        record {
          placed = rw many-steps p;
          many = length-take-le end new new-room ∙ all-places;
          few = omega (arith, many-steps, opening-fit o);
          small = omega (arith, ec, opening-small o);
          regular = rw all-places a.regular;
        }

    -- so that the sheet's sentence is put
    pub new-said : {r : Refusal} {c at next : ℕ} {x y : List ℕ} → Placed (length hs) (step_count t) r → c ≡ total (map header_of hs)
        → Puts (known_fault r (length hs) c ss (take end new)) at x y next → Puts (recipe_fault t r) at x y next
    new-said {r} {c} p ec q =
        let l : Placed (length hs) (length ss) r = rw many-steps p in
        rw (← known_is (take end new) o es new-places l ec) q
