-- The check, then the program's own limits, from the words that the places announce.
use Rattle.std.specs.Prelude.{ℕ, zero, suc, ◌+◌, ◌-◌, ◌≤◌, Bool, true, false, ◌&&◌, List, [], ◌∷◌, map, ◌≡◌, refl, leb, length, take, drop}
use Rattle.std.proofs.Math.Path.{sym}
use Rattle.std.proofs.Common.{ap, ◌∙◌, arith, length-drop, take_all}
use Rattle.std.proofs.lemmas.List.{length-map}
use Rattle.lists.specs.All.{all_take, all_drop}
use Rattle.lists.specs.Chain.{chain-keeps}
use Rattle.model.specs.declared.Header.{Header}
use Rattle.model.specs.declared.Refusal.{Refusal}
use Rattle.model.specs.Header.{no_header}
use Rattle.model.specs.Word.{header_of}
use Rattle.model.specs.Refusals.{refused_by, no_refusal}
use Rattle.model_recipes.specs.Recipe.{Recipe, announced_step, input_heads, announced_places, announced_steps, total, largest}
use Rattle.model_recipes.specs.Check.{or_else, check_refusal}
use Rattle.model_texts.specs.Sheet.{own_refusal}
use Rattle.shape_words.specs.Rules.{Regular, none-regular}
use Rattle.recipes_kinds.specs.Known.{Known}
use Rattle.recipes_check.specs.Asks.{or-first, or-next}
use Rattle.recipes_check.specs.Answered.{drop-map}
use Rattle.recipes_check.specs.Judging.{heads}
use Rattle.recipes_check.specs.Judged.{Judged, accepts, places-known}

-- places, of which the first k are inputs
abbrev pub within_limits : ℕ → List Header → Bool
within_limits k hs = (leb (largest hs) 256 && leb (total (take k hs)) 2048) && leb (total (drop k hs)) 2048

take-map : {A B : Type 0} (f : A → B) (n : ℕ) (l : List A) → map f (take n l) ≡ take n (map f l)
take-map f zero l = refl
take-map f (suc n) [] = refl
take-map f (suc n) (x ∷ l) = ap (λ z. f x ∷ z) (take-map f n l)

-- what `&places[..k]` and `&places[k..]` announce
module _ (ws : List ℕ) (k : ℕ) where
  pub front-heads : map header_of (take k ws) ≡ take k (map header_of ws)
  front-heads = take-map header_of k ws

  pub back-heads : map header_of (take (length ws - k) (drop k ws)) ≡ drop k (map header_of ws)
  back-heads = ap (map header_of) (take_all (length ws - k) (drop k ws) (rest-len)) ∙ sym (drop-map header_of k ws)
    where
      rest-len : length (drop k ws) ≤ length ws - k
      rest-len = omega (arith, length-drop k ws)

  module _ (g : Known (map header_of ws)) where
    pub front-known : Known (map header_of (take k ws))
    front-known = rw front-heads (all_take Regular no_header none-regular k g)

    pub back-known : Known (map header_of (take (length ws - k) (drop k ws)))
    back-known = rw back-heads (all_drop Regular no_header none-regular k g)

-- the inputs come first
pub inputs-first : (it : Recipe) → take (length it.headers) (announced_places it) ≡ input_heads it.headers
unfolding announced_places
inputs-first it =
    let e : length it.headers ≡ length (input_heads it.headers) = sym (length-map it.headers header_of) in
    chain-keeps (announced_step it.edition) (input_heads it.headers) it.steps (length it.headers) (omega arith)
    ∙ take_all (length it.headers) (input_heads it.headers) (omega arith)

pub within-is : (ws : List ℕ) (k : ℕ) {a b c : ℕ} → a ≡ largest (map header_of ws) → b ≡ total (map header_of (take k ws))
    → c ≡ total (map header_of (take (length ws - k) (drop k ws))) → ((leb a 256 && leb b 2048) && leb c 2048) ≡ within_limits k (map header_of ws)
within-is ws k ea eb ec = rw (ea, eb ∙ ap total (front-heads ws k), ec ∙ ap total (back-heads ws k))

-- old, new: the buffer of announced words before and after
pub record OwnJudged (it : Recipe) (old new : List ℕ) (r : Refusal) : Type 0 where
  pub answer : r ≡ or_else (check_refusal it) (own_refusal it)
  pub len : length new ≡ length old
  pub noted : r.number ≡ 0 → heads (length it.headers + length it.steps) new ≡ announced_places it

module _ (it : Recipe) (old new : List ℕ) {r : Refusal} (j : Judged it old new r) where
  pub own_checked : (r.number ≡ 0 → ⊥) → OwnJudged it old new r
  own_checked z =
      record { answer = sym (ap (λ (x : Refusal). or_else x (own_refusal it)) (sym j.answer) ∙ or-first _ z); len = j.len; noted = λ y. absurd (z y) }

  module _ (z : r.number ≡ 0) where
    none : (check_refusal it).number ≡ 0
    none = ap (λ (x : Refusal). x.number) (sym j.answer) ∙ z

    pub own-fit : length it.headers + length it.steps ≤ 64
    own-fit = (accepts it none).sizes.fit

    pub own-known : Known (heads (length it.headers + length it.steps) new)
    own-known = rw (j.noted z) (places-known it (accepts it none).inputs)

    test : {b : Bool} → b ≡ within_limits (length it.headers) (heads (length it.headers + length it.steps) new)
        → b ≡ ((leb (largest (announced_places it)) 256 && leb (total (input_heads it.headers)) 2048) && leb (total (announced_steps it)) 2048)
    unfolding announced_steps
    test e = e ∙ rw (j.noted z, inputs-first it)

    pub own_5 : {b : Bool} → b ≡ within_limits (length it.headers) (heads (length it.headers + length it.steps) new) → b ≡ false
        → OwnJudged it old new (refused_by 5)
    unfolding own_refusal
    own_5 e f =
        record { answer = sym (or-next _ _ none ∙ rw (sym (test e) ∙ f)); len = j.len; noted = λ y. absurd (omega (arith, y)) }

    pub own-none : {b : Bool} → b ≡ within_limits (length it.headers) (heads (length it.headers + length it.steps) new) → b ≡ true
        → OwnJudged it old new no_refusal
    unfolding own_refusal
    own-none e f = record { answer = sym (or-next _ _ none ∙ rw (sym (test e) ∙ f)); len = j.len; noted = λ _. j.noted z }
