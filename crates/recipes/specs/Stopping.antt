-- A run and the step that stops it: how it is found before each step, and what is known when it is.
use Rattle.std.specs.Prelude.{ℕ, suc, ◌+◌, ◌-◌, ◌≤◌, ◌<◌, Bool, true, false, ◌&&◌, not, cond, ◌≡◌, refl, ltb, eqb, get_or, take, Float}
use mathlib.Core.List.{List, [], ◌∷◌, ◌++◌}
use Rattle.std.proofs.Common.{sym, ◌∙◌, add-one, add-zero, drop-cons, drop-drop, get_or-drop, get_or-take, length-take-le, eqb-true}
use Rattle.std.proofs.Math.Path.{ap}
use native.Mathlib.Omega.{arith}
use Rattle.std.proofs.Math.ListN.{length, drop}
use Rattle.std.proofs.Math.Seq.{drop-length}
use Rattle.std.specs.Float.{nan}
use Rattle.lists.specs.Test.{decide}
use Rattle.lists.specs.Chain.{chain}
use Rattle.model_recipes.specs.declared.Step.{Step}
use Rattle.model.specs.Header.{stored}
use Rattle.model.specs.Word.{header_of}
use Rattle.model.specs.Refusals.{refused_at, no_refusal}
use Rattle.model.specs.Readings.{first}
use Rattle.model.specs.Poly.{Poly}
use Rattle.model_exponential.specs.Constant.{in_range}
use Rattle.model_recipes.specs.Steps.{step_of}
use Rattle.model_recipes.specs.Recipe.{Recipe, up_to, announced_step, announced_places, announced_steps, total}
use Rattle.model_recipes.specs.Run.{value_at, step_value, values, step_stops, stop_from, run_stop}
use Rattle.shape_words.specs.Lengths.{lengths_of_lem, count-pos}
use Rattle.shape_operands.specs.Lent.{source, lies-source}
use Rattle.recipes.specs.Standing.{lying_at, Named}
use Rattle.recipes.specs.Running.{Admitted, Running, operands_early, total-front, length-values, formed-at, next-values, step_in_lem, step-lent, place_is}

-- ---- one step

-- the first coefficient of the value of the place q; k inputs
abbrev pub constant_at : ℕ → List ℕ → List Float → List Float → ℕ → Float
constant_at k starts cs before q = get_or (source (ltb q k) cs before) (get_or starts q 0) nan

-- by its operand's constant
abbrev pub stops_by : Step → Float → Bool
stops_by s x = eqb s.kind 11 && not (in_range x)

-- the operand of an exponential has a first coefficient
pub record Headed (s : Step) (k : ℕ) (starts : List ℕ) (cs before : List Float) : Type 0 where
  pub starts_there : s.a < length starts
  pub some : get_or starts s.a 0 < length (source (ltb s.a k) cs before)

-- ---- a run of which m steps were made: all, or the next one stops it
pub record Stood (it : Recipe) (cs : List Float) (m : ℕ) : Type 0 where
  pub most : m ≤ length it.steps
  pub stop : m < length it.steps → run_stop it cs ≡ refused_at 12 (length it.headers + m)
  pub whole : m ≡ length it.steps → run_stop it cs ≡ no_refusal

-- what is left of the search after i steps
abbrev pub Ahead : Recipe → List Float → ℕ → Type 0
Ahead it cs i = run_stop it cs ≡ stop_from it.edition (values (up_to it i) cs) (drop i it.steps)

pub ahead_none : (it : Recipe) (cs : List Float) → Ahead it cs 0
unfolding run_stop values chain
ahead_none it cs = refl

module _ {it : Recipe} {cs : List Float} where
  pub stood-all : {i : ℕ} → Ahead it cs i → i ≤ length it.steps → length it.steps ≤ i → Stood it cs i
  unfolding stop_from
  stood-all {i} e l m =
      let z : i ≡ length it.steps = omega arith in
      let d : drop i it.steps ≡ [] = rw z (drop-length it.steps) in
      record {
        most = l;
        stop = λ h. absurd (omega arith);
        whole = λ _. e ∙ ap (stop_from it.edition (values (up_to it i) cs)) d;
      }

-- ---- the operand of an exponential

module _ {s : Step} {k : ℕ} {known starts : List ℕ} (cs before : List Float) {at room : ℕ} (n : Named s k known starts (length cs) at room)
    (e : length before ≡ at) where
  some-place : 0 < stored (header_of (get_or known s.a 0))
  some-place = count-pos (lengths_of_lem n.ready.left.regular.rules)

  headed : Headed s k starts cs before
  headed = record { starts_there = n.a_starts; some = omega (arith, lies-source cs before n.placed.left e, some-place) }

  constant-first : constant_at k starts cs before s.a ≡ first (lying_at k known starts cs before s.a).coeffs
  constant-first =
      let src = source (ltb s.a k) cs before in
      let from = get_or starts s.a 0 in
      sym (get_or-take (stored (header_of (get_or known s.a 0))) (drop from src) 0 nan some-place
      ∙ (get_or-drop from src 0 nan ∙ ap (λ (j : ℕ). get_or src j nan) (add-zero from)))

-- ---- after i steps

module _ {it : Recipe} {cs : List Float} {old-known : List ℕ} {mp ms : ℕ} (g : Admitted it cs old-known mp ms)
    {old-pool : List Float} {i at : ℕ} {known starts : List ℕ} {pool : List Float} (r : Running it cs old-known old-pool i at known starts pool) where
  abbrev all : ℕ
  all = total (announced_steps it)

  -- nothing was written past the announced places
  pub behind : drop all pool ≡ drop all old-pool
  behind =
      let m : at ≤ all = omega (arith, r.offset, total-front (announced_steps it) i) in
      let z : all ≡ at + (all - at) = omega arith in
      ap (λ (n : ℕ). drop n pool) z
      ∙ (sym (drop-drop (all - at) at pool)
      ∙ (ap (drop (all - at)) r.rest ∙ (drop-drop (all - at) at old-pool ∙ ap (λ (n : ℕ). drop n old-pool) (sym z))))

  module _ (l : i < length it.steps) (e : length pool ≡ mp) where
    abbrev k : ℕ
    k = length it.headers

    abbrev w : ℕ
    w = get_or it.steps i 0

    abbrev vs : List Poly
    vs = values (up_to it i) cs

    abbrev s : Step
    s = step_of w

    abbrev room : ℕ
    room = stored (announced_step it.edition w (announced_places (up_to it i)))

    pub front_fits : at ≤ length pool
    front_fits = let t = step-lent g r l {room = room} refl e in omega (arith, t.room)

    named-now : s.kind ≡ 11 → Named s k known starts (length cs) at room
    named-now t = (step_in_lem g r l {room = room} refl e).named (λ z. omega (arith, t, z))

    pub headed-now : s.kind ≡ 11 → Headed s k starts cs (take at pool)
    headed-now t = headed cs (take at pool) (named-now t) (length-take-le at pool front_fits)

    constant-is : s.kind ≡ 11 → constant_at k starts cs (take at pool) s.a ≡ first (value_at vs s.a).coeffs
    constant-is t =
        let o = operands_early w (k + i) (formed-at g r l) (λ z. omega (arith, t, z)) in
        constant-first cs (take at pool) (named-now t) (length-take-le at pool front_fits)
        ∙ ap (λ (p : Poly). first p.coeffs) (place_is g r l {room = room} refl s.a o.0)

    pub stop_is : stops_by s (constant_at k starts cs (take at pool) s.a) ≡ step_stops w vs
    unfolding step_stops
    stop_is =
        decide (eqb s.kind 11)
        (λ t. ap (stops_by s) (constant-is (eqb-true s.kind 11 t)))
        (λ t. rw t)

    module _ (a : Ahead it cs i) where
      next-is : stop_from it.edition vs (drop i it.steps)
          ≡ cond (step_stops w vs) (refused_at 12 (length vs)) (stop_from it.edition (vs ++ (step_value it.edition w vs ∷ [])) (drop (suc i) it.steps))
      unfolding stop_from
      next-is = ap (stop_from it.edition vs) (drop-cons it.steps i 0 l)

      pub stood-here : step_stops w vs ≡ true → Stood it cs i
      stood-here t =
          record {
            most = omega arith;
            stop = λ h. a ∙ (next-is ∙ rw t (ap (refused_at 12) (length-values g i r.most)));
            whole = λ z. absurd (omega arith);
          }

      pub ahead_more : step_stops w vs ≡ false → Ahead it cs (i + 1)
      ahead_more t = rw (next-values g r l {room = room} refl, add-one i) (a ∙ (next-is ∙ rw t))
