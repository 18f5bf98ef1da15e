-- What calls keep true of the lists, and how lists stand in words.
use Rattle.std.specs.Prelude.{ℕ, ◌+◌, ◌-◌, ◌%◌, ◌≤◌, ◌<◌, true, List, [], ◌∷◌, ◌++◌, ◌≡◌, refl, length, get_or, set, ltb, eqb}
use Rattle.std.proofs.Common.{sym, ap, subst, ◌∙◌, arith, length-append, length-set, get_or-set_same, get_or-set_other, ltb-true, ltb-false, eqb-true}
use Rattle.std.proofs.lemmas.List.{length-replicate, get_or-replicate, get_or_at}
use Rattle.std.proofs.Math.ListN.{get_or-append}
use Rattle.std.proofs.lemmas.Bool.{eqb-false}
use Rattle.lists.specs.Test.{decide}
use Rattle.model_settings.specs.declared.Content.{Content}
use Rattle.model_settings.specs.Store.{State, versions, blank, fresh_content, fresh_state, in_range, good_chance}
use Rattle.model_settings.specs.Words.{slot_at, version_of}

-- the versions of one department: the first is the fresh one, all are in range, and the last has a number
pub record GoodList (xs : List Content) : Type 0 where
  pub made : 1 ≤ length xs
  pub most : length xs ≤ 4294967296
  pub first : get_or xs 0 blank ≡ fresh_content
  pub range : (u : ℕ) → u < length xs → in_range (get_or xs u blank) ≡ true

pub record Sound (s : State) : Type 0 where
  pub many : length s ≡ 32
  pub each : (d : ℕ) → d < 32 → GoodList (versions s d)

-- words hold lists: the version's number, each kept version in its slot, blank slots for versions not made yet
pub record HoldsList (w : List ℕ) (d : ℕ) (xs : List Content) : Type 0 where
  pub version : version_of w d ≡ length xs - 1
  pub slot : (u : ℕ) → u < length xs → length xs ≤ u + 8 → slot_at w d (u % 8) ≡ get_or xs u blank
  pub unmade : (k : ℕ) → length xs ≤ k → k < 8 → slot_at w d k ≡ blank

pub record Holds (s : State) (w : List ℕ) : Type 0 where
  pub long : 544 ≤ length w
  pub each : (d : ℕ) → d < 32 → HoldsList w d (versions s d)

-- one version more
pub more : List Content → Content → List Content
more xs c = xs ++ (c ∷ [])

pub length_more : (xs : List Content) (c : Content) → length (xs ++ (c ∷ [])) ≡ length xs + 1
length_more xs c = length-append xs (c ∷ [])

pub more-last : (xs : List Content) (c : Content) (u : ℕ) → length xs ≡ u → get_or (xs ++ (c ∷ [])) u blank ≡ c
more-last xs c u e = get_or_at xs c [] blank u e

pub more-old :
    (xs : List Content) (c : Content) (u : ℕ) → u < length xs → get_or (xs ++ (c ∷ [])) u blank ≡ get_or xs u blank
more-old xs c u h = get_or-append xs (c ∷ []) blank u h

pub good_more :
    {xs : List Content} (c : Content) → GoodList xs → in_range c ≡ true → length xs ≤ 4294967295 → GoodList
    (xs ++ (c ∷ []))
good_more {xs} c g r h =
    record {
      made = omega (arith, length_more xs c);
      most = omega (arith, length_more xs c);
      first = more-old xs c 0 g.made ∙ g.first;
      range = λ u l.
          decide (ltb u (length xs))
          (λ t. ap in_range (more-old xs c u (ltb-true u (length xs) t)) ∙ g.range u (ltb-true u (length xs) t))
          (λ t. let e : length xs ≡ u = omega (arith, ltb-false u (length xs) t, length_more xs c) in ap in_range
          (more-last xs c u e) ∙ r);
    }

pub good-fresh : GoodList (fresh_content ∷ [])
unfolding in_range good_chance
good-fresh =
    record {
      made = omega arith;
      most = omega arith;
      first = refl;
      range =
          λ u l. let e : 0 ≡ u = omega arith in ap (λ z. in_range (get_or (fresh_content ∷ []) z blank)) (sym e) ∙ refl;
    }

-- a department of a changed state
module _ (s : State) (xs : List Content) (d : ℕ) where
  pub set_here : d < length s → versions (set s d xs) d ≡ xs
  set_here h = get_or-set_same s d xs [] h

  pub set_there : (e : ℕ) → (e ≡ d → ⊥) → versions (set s d xs) e ≡ versions s e
  set_there e h = get_or-set_other s d e xs [] h

pub sound-set : {s : State} (d : ℕ) {xs : List Content} → Sound s → GoodList xs → d < 32 → Sound (set s d xs)
sound-set {s} d {xs} g x h =
    record {
      many = length-set s d xs ∙ g.many;
      each = λ e l.
          decide (eqb e d)
          (λ t. subst (λ z. GoodList (versions (set s d xs) z)) (sym (eqb-true e d t))
          (rw (set_here s xs d (omega (arith, g.many))) x))
          (λ t. rw (set_there s xs d e (eqb-false e d t)) (g.each e l));
    }

pub fresh-versions : (d : ℕ) → d < 32 → versions fresh_state d ≡ fresh_content ∷ []
unfolding fresh_state
fresh-versions d h = get_or-replicate 32 d (fresh_content ∷ []) [] h

pub sound-fresh : Sound fresh_state
unfolding fresh_state
sound-fresh =
    record { many = length-replicate 32 (fresh_content ∷ []); each = λ d h. rw (fresh-versions d h) good-fresh }
