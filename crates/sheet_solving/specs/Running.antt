-- What a sheet's recipe is run with: the records that hand on what is known, from the reading to the run.
use Rattle.std.specs.Prelude.{ℕ, zero, suc, ◌+◌, ◌≤◌, Bool, true, ◌&&◌, List, [], ◌∷◌, map, ◌≡◌, leb, take, drop}
use Rattle.std.proofs.Math.Path.{sym, ap}
use Rattle.std.proofs.Common.{◌∙◌, arith, length-append, length-drop, take_at, leb-true}
use Rattle.std.proofs.Math.ListN.{length}
use Rattle.std.proofs.lemmas.List.{length-map}
use Rattle.lists.specs.Chain.{length-chain}
use Rattle.lists.specs.Grow.{over}
use Rattle.lists.specs.Test.{and_left, and_right}
use Rattle.model.specs.declared.Header.{Header}
use Rattle.model.specs.Word.{header_of}
use Rattle.model.specs.Refusals.{no_refusal}
use Rattle.model_recipes.specs.Recipe.{Recipe, recipe_of, announced_step, input_heads, announced_places, announced_steps, total, largest}
use Rattle.model_recipes.specs.Check.{or_else, check_refusal}
use Rattle.model_texts.specs.Sheet.{sheet_headers, sheet_edition, sheet_steps, sheet_recipe, own_refusal, read_refusal}
use Rattle.recipes_kinds.specs.Known.{Known}
use Rattle.recipes_check.specs.Asks.{or-none, ask-none}
use Rattle.recipes_check.specs.Judging.{heads}
use Rattle.recipes_check.specs.Judged.{Accepts, accepts, places-known}

-- a text that is read, with its input headers and its edition
pub record Opening (t hs : List ℕ) (ed : ℕ) : Type 0 where
  pub read : (read_refusal t).number ≡ 0
  pub headers : hs ≡ sheet_headers t
  pub edition : ed ≡ sheet_edition t

-- and judged, with the words that its places announce and how many coefficients its inputs have
pub record Running (t : List ℕ) (it : Recipe) (known : List ℕ) (c : ℕ) : Type 0 where
  pub opened : Opening t it.headers it.edition
  pub steps : it.steps ≡ sheet_steps t
  pub judged : (or_else (check_refusal it) (own_refusal it)).number ≡ 0
  pub places : map header_of known ≡ announced_places it
  pub given : c ≡ total (input_heads it.headers)

-- and with memory for its run: p places of a pool, w words, s places of scratch
pub record RunningIn (t : List ℕ) (it : Recipe) (known : List ℕ) (c p w s : ℕ) : Type 0 where
  pub opened : Opening t it.headers it.edition
  pub steps : it.steps ≡ sheet_steps t
  pub judged : (or_else (check_refusal it) (own_refusal it)).number ≡ 0
  pub places : heads (length it.headers + length it.steps) known ≡ announced_places it
  pub given : c ≡ total (input_heads it.headers)
  pub many : 64 ≤ length known
  pub pool : 2048 ≤ p
  pub words : 64 ≤ w
  pub scratch : 2048 ≤ s

largest-drop : (k : ℕ) (hs : List Header) → largest (drop k hs) ≤ largest hs
unfolding largest
largest-drop zero hs = omega arith
largest-drop (suc k) [] = omega arith
largest-drop (suc k) (h ∷ hs) = omega (arith, largest-drop k hs)

-- ---- what is known of a recipe that the check and the limits let pass

pub record Passed (it : Recipe) : Type 0 where
  pub check : (check_refusal it).number ≡ 0
  pub own : (own_refusal it).number ≡ 0
  pub accepts : Accepts it
  pub each : largest (announced_places it) ≤ 256
  pub inputs : total (input_heads it.headers) ≤ 2048
  pub pool : total (announced_steps it) ≤ 2048

pub passed : (it : Recipe) → (or_else (check_refusal it) (own_refusal it)).number ≡ 0 → Passed it
unfolding own_refusal
passed it e =
    let a : Bool = leb (largest (announced_places it)) 256 in
    let b : Bool = leb (total (input_heads it.headers)) 2048 in
    let c : Bool = leb (total (announced_steps it)) 2048 in
    let n = or-none (check_refusal it) (own_refusal it) e in
    let t : ((a && b) && c) ≡ true = (ask-none ((a && b) && c) 64 no_refusal (λ z. omega (arith, z)) n.1).0 in
    let u = and_left (a && b) c t in
    record {
      check = n.0;
      own = n.1;
      accepts = accepts it n.0;
      each = leb-true _ _ (and_left a b u);
      inputs = leb-true _ _ (and_right a b u);
      pool = leb-true _ _ (and_right (a && b) c t);
    }

-- a step announces no more than 256 places
pub steps-largest : {it : Recipe} → Passed it → largest (announced_steps it) ≤ 256
unfolding announced_steps
steps-largest {it} p = omega (arith, p.each, largest-drop (length it.headers) (announced_places it))

module _ {t : List ℕ} {it : Recipe} {known : List ℕ} {c : ℕ} (r : Running t it known c) where
  pub running-is : it ≡ sheet_recipe t
  unfolding sheet_recipe
  running-is = λ i. recipe_of (r.opened.edition i) (r.opened.headers i) (r.steps i)

  pub running-passed : Passed it
  running-passed = passed it r.judged

  pub running-known : Known (map header_of known)
  running-known = rw r.places (places-known it running-passed.accepts.inputs)

  pub running-many : length known ≡ length it.headers + length it.steps
  unfolding announced_places
  running-many =
      sym (length-map known header_of) ∙ (ap length r.places
      ∙ (length-chain (announced_step it.edition) (input_heads it.headers) it.steps
      ∙ ap (λ (n : ℕ). n + length it.steps) (length-map it.headers header_of)))

  pub running-fit : length known ≤ 64
  running-fit = omega (arith, running-many, running-passed.accepts.sizes.fit)

  pub running-given : c ≤ 2048
  running-given = omega (arith, r.given, running-passed.inputs)

  -- the words were copied into memory for 64
  pub running_in : (old : List ℕ) {new : List ℕ} {m p w s : ℕ} → new ≡ over known old → length old ≡ 64 → m ≡ c → 2048 ≤ p → 64 ≤ w → 2048 ≤ s
      → RunningIn t it new m p w s
  running_in old {new} e l em ep ew es =
      let rest : List ℕ = drop (length known) old in
      let front : take (length it.headers + length it.steps) new ≡ known =
      rw e (take_at known rest (length it.headers + length it.steps) running-many) in
      record {
        opened = r.opened;
        steps = r.steps;
        judged = r.judged;
        places = ap (map header_of) front ∙ r.places;
        given = em ∙ r.given;
        many = rw e (omega (arith, l, length-append known (drop (length known) old), length-drop (length known) old, running-fit));
        pool = ep;
        words = ew;
        scratch = es;
      }
