-- The check's answer, from its refusal and the words that the places announce.
use Rattle.std.specs.Prelude.{Err, ℕ, zero, suc, ◌+◌, ◌-◌, ◌≤◌, List, [], ◌∷◌, map, ◌≡◌, refl, length, take, drop}
use Rattle.std.proofs.Common.{sym, ap, ◌∙◌, arith, eq-eqb, ne_eqb}
use Rattle.lists.specs.All.{all_drop}
use Rattle.lists.specs.Part.{drop-take}
use Rattle.model.specs.declared.Refusal.{Refusal}
use Rattle.model.specs.Header.{no_header}
use Rattle.model.specs.Word.{header_of}
use Rattle.model_recipes.specs.Recipe.{Recipe, input_heads, announced_steps, total, largest}
use Rattle.model_recipes.specs.Check.{check_refusal, check_by, check_answer}
use Rattle.shape_words.specs.Rules.{Regular, none-regular}
use Rattle.recipes_kinds.specs.Known.{Known}
use Rattle.recipes_check.specs.Inputs.{inputs-known}
use Rattle.recipes_check.specs.Judged.{Judged, accepts, places-known}
use Rattle.model_recipes.specs.Results.{accepting}

pub drop-map : {A B : Type 0} (f : A → B) (n : ℕ) (l : List A) → drop n (map f l) ≡ map f (drop n l)
drop-map f zero l = refl
drop-map f (suc n) [] = refl
drop-map f (suc n) (x ∷ l) = drop-map f n l

-- new: the words noted
pub record Passed (it : Recipe) (new : List ℕ) : Type 0 where
  pub fit : length it.headers + length it.steps ≤ 64
  pub part : map header_of (take (length it.headers + length it.steps - length it.headers) (drop (length it.headers) new)) ≡ announced_steps it
  pub steps : Known (announced_steps it)
  pub inputs : Known (input_heads it.headers)

pub passed : {it : Recipe} {old new : List ℕ} {r : Refusal} → Judged it old new r → r.number ≡ 0 → Passed it new
unfolding announced_steps
passed {it} {old} {new} {r} j z =
    let k = length it.headers in
    let a = accepts it (ap (λ (x : Refusal). x.number) (sym j.answer) ∙ z) in
    let e : k + length it.steps - k ≡ length it.steps = omega arith in
    record {
      fit = a.sizes.fit;
      part =
          ap (λ (n : ℕ). map header_of (take n (drop k new))) e
          ∙ (ap (map header_of) (sym (drop-take k (length it.steps) new))
          ∙ (sym (drop-map header_of k (take (k + length it.steps) new)) ∙ ap (drop k) (j.noted z)));
      steps = all_drop Regular no_header none-regular k (places-known it a.inputs);
      inputs = inputs-known it.headers a.inputs;
    }

pub answer_no : (it : Recipe) {r : Refusal} → r ≡ check_refusal it → (r.number ≡ 0 → ⊥) → Err r ≡ check_answer it
unfolding check_answer check_by
answer_no it {r} e n = rw (← e) (simp (ne_eqb r.number 0 n))

pub answer-yes : (it : Recipe) {r : Refusal} {x y z : ℕ} → r ≡ check_refusal it → r.number ≡ 0 → x ≡ total (announced_steps it)
    → y ≡ largest (announced_steps it) → z ≡ total (input_heads it.headers) → accepting x y z ≡ check_answer it
unfolding check_answer check_by
answer-yes it {r} e n p q u = rw (← e) (simp (eq-eqb r.number 0 n, p, q, u))
