-- The check's loop over the steps: what is left to look at, with the places known so far, decides as the whole does.
use Rattle.std.specs.Prelude.{ℕ, suc, ◌+◌, ◌≤◌, ◌<◌, ◌≡◌, refl, get_or, take, set}
use mathlib.Core.List.{List, [], ◌∷◌, ◌++◌, map, map-append}
use Rattle.std.proofs.Math.Path.{sym, ap}
use Rattle.std.proofs.Common.{◌∙◌, arith, add-zero, add-one, length-set, drop-cons, take-suc-set, length-take-le}
use Rattle.std.proofs.Math.ListN.{length, drop, drop_of_length-le}
use Rattle.lists.specs.All.{all_snoc}
use Rattle.lists.specs.Chain.{chain, chain-none, chain_cons}
use Rattle.model.specs.declared.Header.{Header}
use Rattle.model.specs.declared.Refusal.{Refusal}
use Rattle.model.specs.Header.{no_header}
use Rattle.model.specs.Word.{header_of, word_of}
use Rattle.model.specs.Refusals.{no_refusal}
use Rattle.model_recipes.specs.Recipe.{announced_step}
use Rattle.model_recipes.specs.Check.{or_else, step_refusal, steps_refusal}
use Rattle.shape_words.specs.Rules.{Regular, none-regular}
use Rattle.shape_words.specs.Words.{unpack-pack}
use Rattle.recipes_kinds.specs.Known.{Known, step-regular}
use Rattle.recipes_check.specs.Asks.{or-first, or-next}

-- the headers of the first n words
abbrev pub heads : ℕ → List ℕ → List Header
heads n ws = map header_of (take n ws)

-- k places are known, and there is room for the steps
pub record Ready (ss : List ℕ) (k : ℕ) (known : List ℕ) : Type 0 where
  pub fit : k + length ss ≤ 64
  pub room : 64 ≤ length known
  pub regular : Known (heads k known)

-- start: what the first k places announce
pub record StepsJudged (ed : ℕ) (ss : List ℕ) (start : List Header) (k : ℕ) (old new : List ℕ) (r : Refusal) : Type 0 where
  pub answer : r ≡ steps_refusal ed start ss
  pub len : length new ≡ length old
  pub noted : r.number ≡ 0 → heads (k + length ss) new ≡ chain (announced_step ed) start ss

-- after i turns
pub record Judging (ed : ℕ) (ss : List ℕ) (start : List Header) (k : ℕ) (old new : List ℕ) (i : ℕ) : Type 0 where
  pub most : i ≤ length ss
  pub len : length new ≡ length old
  pub regular : Known (heads (k + i) new)
  pub left : steps_refusal ed start ss ≡ steps_refusal ed (heads (k + i) new) (drop i ss)
  pub made : chain (announced_step ed) start ss ≡ chain (announced_step ed) (heads (k + i) new) (drop i ss)

pub judging-none : (ed : ℕ) (ss : List ℕ) (k : ℕ) (old : List ℕ) → Known (heads k old) → Judging ed ss (heads k old) k old old 0
judging-none ed ss k old g = record { most = omega arith; len = refl; regular = rw (add-zero k) g; left = rw (add-zero k) refl; made = rw (add-zero k) refl }

module _ {ed : ℕ} {ss : List ℕ} {start : List Header} {k : ℕ} {old new : List ℕ} {i : ℕ} (j : Judging ed ss start k old new i) where
  abbrev so_far : List Header
  so_far = heads (k + i) new

  -- there is room for one more
  pub judging-room : Ready ss k old → i < length ss → k + i < length new
  judging-room g l = omega (arith, j.len, g.fit, g.room)

  pub judging-taken : Ready ss k old → i < length ss → k + i ≡ length (take (k + i) new)
  judging-taken g l = sym (length-take-le (k + i) new (omega (arith, judging-room g l)))

  module _ (l : i < length ss) where
    abbrev word : ℕ
    word = get_or ss i 0

    refusal_ahead : steps_refusal ed start ss
        ≡ or_else (step_refusal ed word so_far) (steps_refusal ed (so_far ++ (announced_step ed word so_far ∷ [])) (drop (suc i) ss))
    unfolding steps_refusal
    refusal_ahead = j.left ∙ ap (steps_refusal ed so_far) (drop-cons ss i 0 l)

    made_ahead : chain (announced_step ed) start ss ≡ chain (announced_step ed) (so_far ++ (announced_step ed word so_far ∷ [])) (drop (suc i) ss)
    made_ahead = j.made ∙ (ap (chain (announced_step ed) so_far) (drop-cons ss i 0 l) ∙ chain_cons (announced_step ed) so_far word (drop (suc i) ss))

    pub judging-stop : {r : Refusal} → r ≡ step_refusal ed word so_far → (r.number ≡ 0 → ⊥) → StepsJudged ed ss start k old new r
    judging-stop {r} e n =
        record {
          answer =
              sym (refusal_ahead
              ∙ (ap (λ (x : Refusal). or_else x (steps_refusal ed (so_far ++ (announced_step ed word so_far ∷ []))
              (drop (suc i) ss))) (sym e) ∙ or-first _ n));
          len = j.len;
          noted = λ z. absurd (n z);
        }

    -- one place more
    grown : {h : Header} {w : ℕ} → k + i < length new → h ≡ announced_step ed word so_far → w ≡ word_of h
        → heads (k + (i + 1)) (set new (k + i) w) ≡ so_far ++ (announced_step ed word so_far ∷ [])
    grown {h} {w} m e f =
        let n : k + (i + 1) ≡ suc (k + i) = omega arith in
        let back : header_of w ≡ announced_step ed word so_far =
        ap header_of (f ∙ ap word_of e) ∙ unpack-pack (announced_step ed word so_far) (step-regular ed word j.regular) in
        ap (λ (x : ℕ). heads x (set new (k + i) w)) n
        ∙ (ap (map header_of) (take-suc-set new (k + i) w m)
        ∙ (map-append header_of (take (k + i) new) (w ∷ []) ∙ ap (λ (x : Header). so_far ++ (x ∷ [])) back))

    pub judging-more : {r : Refusal} {h : Header} {w : ℕ} → k + i < length new → r ≡ step_refusal ed word so_far
        → r.number ≡ 0 → h ≡ announced_step ed word so_far → w ≡ word_of h
        → Judging ed ss start k old (set new (k + i) w) (i + 1)
    judging-more {r} {h} {w} m e z p f =
        let g = grown m p f in
        let none : (step_refusal ed word so_far).number ≡ 0 = ap (λ (x : Refusal). x.number) (sym e) ∙ z in
        record {
          most = omega arith;
          len = length-set new (k + i) w ∙ j.len;
          regular = rw g (all_snoc Regular no_header none-regular j.regular (step-regular ed word j.regular));
          left = rw (g, add-one i) (refusal_ahead ∙ or-next _ _ none);
          made = rw (g, add-one i) made_ahead;
        }

  pub judging_end : length ss ≤ i → StepsJudged ed ss start k old new no_refusal
  unfolding steps_refusal
  judging_end l =
      let e : drop i ss ≡ [] = drop_of_length-le ss l in
      let n : k + length ss ≡ k + i = omega (arith, j.most) in
      record {
        answer = sym (j.left ∙ ap (steps_refusal ed so_far) e);
        len = j.len;
        noted = λ _. ap (λ (x : ℕ). heads x new) n ∙ sym (j.made ∙ (ap (chain (announced_step ed) so_far) e ∙ chain-none (announced_step ed) so_far));
      }
