-- The check's refusal, and the words that all places announce where there is none.
use Rattle.std.specs.Prelude.{ℕ, ◌+◌, ◌≤◌, true, false, ◌&&◌, ◌≡◌, refl, take}
use mathlib.Core.List.{List, [], ◌∷◌, ◌++◌, map}
use Rattle.std.proofs.Math.Path.{sym, ap}
use Rattle.std.proofs.Common.{◌∙◌, arith}
use Rattle.std.proofs.Math.Dec.{leb}
use Rattle.std.proofs.Math.ListN.{length}
use borrow.Author.Tests.{leb-true}
use Rattle.lists.specs.All.{all_snoc}
use Rattle.lists.specs.Chain.{chain}
use Rattle.lists.specs.Grow.{over, length_over, take-over}
use Rattle.lists.specs.Test.{and_left, and_right}
use Rattle.model.specs.declared.Header.{Header}
use Rattle.model.specs.declared.Refusal.{Refusal}
use Rattle.model.specs.Header.{no_header}
use Rattle.model.specs.Word.{header_of}
use Rattle.model.specs.Refusals.{refused_at}
use Rattle.model_recipes.specs.Recipe.{Recipe, announced_step, input_heads, announced_places}
use Rattle.model_recipes.specs.Check.{or_else, known_edition, right_sizes, inputs_refusal, steps_refusal, check_refusal}
use Rattle.shape_words.specs.Rules.{Regular, none-regular}
use Rattle.recipes_kinds.specs.Known.{Known, step-regular}
use Rattle.recipes_check.specs.Inputs.{inputs-known}
use Rattle.recipes_check.specs.Asks.{or-first, or-next, or-none, ask-none}
use Rattle.recipes_check.specs.Judging.{heads, Ready, StepsJudged}

pub record Judged (it : Recipe) (old new : List ℕ) (r : Refusal) : Type 0 where
  pub answer : r ≡ check_refusal it
  pub len : length new ≡ length old
  pub noted : r.number ≡ 0 → heads (length it.headers + length it.steps) new ≡ announced_places it

-- what the test of sizes says
pub record Sizes (it : Recipe) : Type 0 where
  pub test : (known_edition it.edition && right_sizes (length it.headers) (length it.steps)) ≡ true
  pub edition : it.edition ≤ 1
  pub few : length it.headers ≤ 16
  pub some : 1 ≤ length it.steps
  pub fit : length it.headers + length it.steps ≤ 64

module _ (it : Recipe) where
  abbrev k : ℕ
  k = length it.headers

  abbrev n : ℕ
  n = length it.steps

  pub sizes : (known_edition it.edition && right_sizes k n) ≡ true → Sizes it
  unfolding right_sizes
  sizes e =
      let r = and_right (leb it.edition 1) (right_sizes k n) e in
      let g = and_left (leb k 16 && leb 1 n) (leb (k + n) 64) r in
      record {
        test = e;
        edition = leb-true _ _ (and_left (leb it.edition 1) (right_sizes k n) e);
        few = leb-true _ _ (and_left (leb k 16) (leb 1 n) g);
        some = leb-true _ _ (and_right (leb k 16) (leb 1 n) g);
        fit = leb-true _ _ (and_right (leb k 16 && leb 1 n) (leb (k + n) 64) r);
      }

  pub judged-sizes : (old : List ℕ) → (known_edition it.edition && right_sizes k n) ≡ false → Judged it old old (refused_at 7 64)
  unfolding check_refusal
  judged-sizes old e = record { answer = simp e; len = refl; noted = λ z. absurd (omega (arith, z)) }

  module _ (s : Sizes it) where
    after-sizes : check_refusal it ≡ or_else (inputs_refusal 0 it.headers) (steps_refusal it.edition (input_heads it.headers) it.steps)
    unfolding check_refusal
    after-sizes = simp s.test

    pub judged-inputs : (old : List ℕ) {r : Refusal} → r ≡ inputs_refusal 0 it.headers → (r.number ≡ 0 → ⊥) → Judged it old old r
    judged-inputs old {r} e z =
        record {
          answer = sym (after-sizes
              ∙ (ap (λ (x : Refusal). or_else x (steps_refusal it.edition (input_heads it.headers) it.steps)) (sym e) ∙ or-first _ z));
          len = refl;
          noted = λ y. absurd (z y);
        }

    module _ {r : Refusal} (e : r ≡ inputs_refusal 0 it.headers) (z : r.number ≡ 0) where
      none : (inputs_refusal 0 it.headers).number ≡ 0
      none = ap (λ (x : Refusal). x.number) (sym e) ∙ z

      start : (old mid : List ℕ) → mid ≡ over it.headers old → heads k mid ≡ input_heads it.headers
      start old mid e = ap (map header_of) (ap (take k) e ∙ take-over it.headers old k refl)

      -- the inputs' words are noted
      pub ready : (old mid : List ℕ) → 64 ≤ length old → mid ≡ over it.headers old → Ready it.steps k mid
      ready old mid m f =
          record {
            fit = s.fit;
            room = omega (arith, ap length f ∙ length_over it.headers old (omega (arith, s.few)));
            regular = rw (start old mid f) (inputs-known it.headers none);
          }

      pub judged-steps : {old mid new : List ℕ} {q : Refusal} → 64 ≤ length old → mid ≡ over it.headers old
          → StepsJudged it.edition it.steps (heads k mid) k mid new q → Judged it old new q
      unfolding announced_places
      judged-steps {old} {mid} {new} {q} m f j =
          record {
            answer = j.answer ∙ (ap (λ (x : List Header). steps_refusal it.edition x it.steps) (start old mid f) ∙ sym (after-sizes ∙ or-next _ _ none));
            len = j.len ∙ (ap length f ∙ length_over it.headers old (omega (arith, s.few)));
            noted = λ y. j.noted y ∙ ap (λ (x : List Header). chain (announced_step it.edition) x it.steps) (start old mid f);
          }

-- where the check accepts
pub record Accepts (it : Recipe) : Type 0 where
  pub sizes : Sizes it
  pub inputs : (inputs_refusal 0 it.headers).number ≡ 0
  pub steps : (steps_refusal it.edition (input_heads it.headers) it.steps).number ≡ 0

pub accepts : (it : Recipe) → (check_refusal it).number ≡ 0 → Accepts it
unfolding check_refusal
accepts it e =
    let a = ask-none (known_edition it.edition && right_sizes (length it.headers) (length it.steps)) 64
    (or_else (inputs_refusal 0 it.headers) (steps_refusal it.edition (input_heads it.headers) it.steps)) (λ z. omega (arith, z)) e in
    let b = or-none (inputs_refusal 0 it.headers) (steps_refusal it.edition (input_heads it.headers) it.steps) a.1 in
    record { sizes = sizes it a.0; inputs = b.0; steps = b.1 }

-- what the places announce keeps the rules
pub chain-known : (ed : ℕ) {known : List Header} → Known known → (ss : List ℕ) → Known (chain (announced_step ed) known ss)
unfolding chain
chain-known ed {known = known} g [] = g
chain-known ed {known = known} g (w ∷ ss) = chain-known ed {known = known ++ (announced_step ed w known ∷ [])} (all_snoc Regular no_header
    none-regular g (step-regular ed w g)) ss

pub places-known : (it : Recipe) → (inputs_refusal 0 it.headers).number ≡ 0 → Known (announced_places it)
unfolding announced_places
places-known it e = chain-known it.edition (inputs-known it.headers e) it.steps
