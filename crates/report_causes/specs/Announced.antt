-- The loop that notes what the steps announce.
use Rattle.std.specs.Prelude.{ℕ, suc, ◌+◌, ◌≤◌, ◌<◌, List, [], ◌∷◌, ◌++◌, map, ◌≡◌, refl, length, get_or, take, drop, set}
use Rattle.std.proofs.lemmas.List.{map-append}
use Rattle.std.proofs.Common.{sym, ap, ◌∙◌, arith, add-zero, add-one, length-set, drop_of_length-le, drop-cons, take-suc-set, length-take-le}
use Rattle.lists.specs.All.{all_snoc}
use Rattle.lists.specs.Chain.{chain, chain-none, chain_cons}
use Rattle.model.specs.declared.Header.{Header}
use Rattle.model.specs.Header.{no_header}
use Rattle.model.specs.Word.{header_of, word_of}
use Rattle.model_recipes.specs.Recipe.{announced_step}
use Rattle.shape_words.specs.Rules.{Regular, none-regular}
use Rattle.shape_words.specs.Words.{unpack-pack}
use Rattle.recipes_kinds.specs.Known.{Known, step-regular}
use Rattle.recipes_check.specs.Judging.{heads, Ready}

-- k places were known, and those of the steps ss follow them
pub record Announced (ed : ℕ) (ss : List ℕ) (k : ℕ) (old new : List ℕ) : Type 0 where
  pub len : length new ≡ length old
  pub regular : Known (heads (k + length ss) new)
  pub noted : heads (k + length ss) new ≡ chain (announced_step ed) (heads k old) ss

-- after i turns
pub record Announcing (ed : ℕ) (ss : List ℕ) (k : ℕ) (old new : List ℕ) (i : ℕ) : Type 0 where
  pub most : i ≤ length ss
  pub len : length new ≡ length old
  pub regular : Known (heads (k + i) new)
  pub made : chain (announced_step ed) (heads k old) ss ≡ chain (announced_step ed) (heads (k + i) new) (drop i ss)

pub announcing-none : (ed : ℕ) (ss : List ℕ) (k : ℕ) (old : List ℕ) → Known (heads k old) → Announcing ed ss k old old 0
announcing-none ed ss k old g = record { most = omega arith; len = refl; regular = rw (add-zero k) g; made = rw (add-zero k) refl }

module _ {ed : ℕ} {ss : List ℕ} {k : ℕ} {old new : List ℕ} {i : ℕ} (j : Announcing ed ss k old new i) where
  abbrev so_far : List Header
  so_far = heads (k + i) new

  pub announcing-room : Ready ss k old → i < length ss → k + i < length new
  announcing-room g l = omega (arith, j.len, g.fit, g.room)

  pub announcing-taken : Ready ss k old → i < length ss → k + i ≡ length (take (k + i) new)
  announcing-taken g l = sym (length-take-le (k + i) new (omega (arith, announcing-room g l)))

  module _ (l : i < length ss) where
    abbrev word : ℕ
    word = get_or ss i 0

    grown : {h : Header} {w : ℕ} → k + i < length new → h ≡ announced_step ed word so_far → w ≡ word_of h
        → heads (k + (i + 1)) (set new (k + i) w) ≡ so_far ++ (announced_step ed word so_far ∷ [])
    grown {h} {w} m e f =
        let n : k + (i + 1) ≡ suc (k + i) = omega arith in
        let back : header_of w ≡ announced_step ed word so_far =
        ap header_of (f ∙ ap word_of e) ∙ unpack-pack (announced_step ed word so_far) (step-regular ed word j.regular) in
        ap (λ (x : ℕ). heads x (set new (k + i) w)) n
        ∙ (ap (map header_of) (take-suc-set new (k + i) w m)
        ∙ (map-append header_of (take (k + i) new) (w ∷ []) ∙ ap (λ (x : Header). so_far ++ (x ∷ [])) back))

    pub announcing-more : {h : Header} {w : ℕ} → k + i < length new → h ≡ announced_step ed word so_far → w ≡ word_of h
        → Announcing ed ss k old (set new (k + i) w) (i + 1)
    announcing-more {h} {w} m p f =
        let g = grown m p f in
        record {
          most = omega arith;
          len = length-set new (k + i) w ∙ j.len;
          regular = rw g (all_snoc Regular no_header none-regular j.regular (step-regular ed word j.regular));
          made =
              rw (g, add-one i)
              (j.made ∙ (ap (chain (announced_step ed) so_far) (drop-cons ss i 0 l) ∙ chain_cons (announced_step ed) so_far word (drop (suc i) ss)));
        }

  pub announcing_end : length ss ≤ i → Announced ed ss k old new
  announcing_end l =
      let e : drop i ss ≡ [] = drop_of_length-le ss l in
      let n : k + length ss ≡ k + i = omega (arith, j.most) in
      record {
        len = j.len;
        regular = rw n j.regular;
        noted =
            ap (λ (x : ℕ). heads x new) n ∙ sym (j.made ∙ (ap (chain (announced_step ed) so_far) e ∙ chain-none (announced_step ed) so_far));
      }
