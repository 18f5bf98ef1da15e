-- A run after i steps: which words, starts and pool stand, and what one step more makes of them.
use Prim.Native.Nat.{ℕ, zero, suc, ◌+◌, ◌-◌, ◌*◌, ◌≤◌, ◌<◌}
use Rattle.std.specs.Prelude.{Bool, true, false, ◌≡◌, ltb, leb, eqb, get_or, set, Float}
use mathlib.Core.List.{List, [], ◌∷◌, ◌++◌, map, append_assoc, append-nil}
use Rattle.std.proofs.Math.Path.{refl, sym, ap}
use Rattle.std.proofs.Common.{◌∙◌, arith, add-one, length-set, take-append-drop, take-suc, take-add, take-take}
use Rattle.std.proofs.Common.{drop-drop, get_or-set_same, get_or-set_other, eqb-true, le-leb, ltb-true, le-ltb}
use Rattle.std.proofs.Common.{lt-ltb, leb-true, leb-false}
use Rattle.std.proofs.Math.ListN.{length, take, drop, length-drop, length-map, get_or-append}
use Rattle.std.proofs.Math.Seq.{take_all, length-take-le, get_or-drop, get_or-take, ext_get_or}
use Rattle.std.proofs.lemmas.List.{drop-append-le, get_or_at}
use Rattle.std.proofs.lemmas.Bool.{eqb-false}
use Rattle.lists.specs.Test.{decide}
use Rattle.lists.specs.Chain.{chain, chain_append, chain_cons, chain-none, chain-keeps, length-chain}
use Rattle.lists.specs.Part.{Kept}
use Rattle.model.specs.declared.Header.{Header}
use Rattle.model_recipes.specs.declared.Step.{Step}
use Rattle.model.specs.Header.{limit, stored, no_header}
use Rattle.model.specs.Word.{header_of, word_of}
use Rattle.model.specs.Refusals.{padded}
use Rattle.model.specs.Poly.{Poly}
use Rattle.model_recipes.specs.Steps.{step_of, rows, uses_of}
use Rattle.model_recipes.specs.Recipe.{recipe_of, Recipe, up_to, head_at, announced_step, input_heads, announced_places, announced_steps, total, largest}
use Rattle.model_recipes.specs.Check.{named_before, formed, check_refusal}
use Rattle.model_recipes.specs.Reasons.{no_kind}
use Rattle.model_recipes.specs.Run.{input_values, no_value, value_at, step_value, values, step_values, laid}
use Rattle.shape_words.specs.Rules.{Ruled, Regular}
use Rattle.shape_words.specs.Words.{unpack-pack}
use Rattle.shape_words.specs.Lengths.{lengths_of_lem, count-pos}
use Rattle.shape.specs.Keeps.{Keeps}
use Rattle.shape.specs.Under.{count_under}
use Rattle.recipes_kinds.specs.Known.{head_at_lem, small-variable, step-regular}
use Rattle.shape_operands.specs.Lent.{Lent}
use Rattle.recipes_check.specs.Judging.{heads}
use Rattle.recipes_check.specs.Judged.{accepts}
use Rattle.recipes_laws.specs.Formed.{formed-tests, formed-right}
use Rattle.recipes_laws.specs.Exact.{length-known}
use Rattle.recipes_laws.specs.EachKind.{by_kind}
use Rattle.recipes_laws.specs.Follows.{length-inputs, follows-known}
use Rattle.recipes_laws.specs.Ahead.{Clear, ahead-at, clear_at_lem, ready_at, keeps_at_lem, announced-at, length-announced, step-largest}
use Rattle.recipes_laws.specs.Passed.{StepReady}
use Rattle.recipes.specs.Standing.{value_in, plain_fits, lying_at, Named, StepIn, constant-value, Placing, total-more, At, at-lying, at_lies, at_later}
use Rattle.recipes.specs.Standing.{at_new, input-at}

-- ---- operands of a step that is right

uses-a : (k : ℕ) → k ≤ 11 → (k ≡ 0 → ⊥) → (uses_of k).a ≡ true
unfolding rows
uses-a =
    by_kind {P = λ k. k ≤ 11 → (k ≡ 0 → ⊥) → (uses_of k).a ≡ true}
    (record {
      k0 = λ _ n. absurd (n refl);
      k1 = λ _ _. refl;
      k2 = λ _ _. refl;
      k3 = λ _ _. refl;
      k4 = λ _ _. refl;
      k5 = λ _ _. refl;
      k6 = λ _ _. refl;
      k7 = λ _ _. refl;
      k8 = λ _ _. refl;
      k9 = λ _ _. refl;
      k10 = λ _ _. refl;
      k11 = λ _ _. refl;
      past = λ k l _. absurd (omega (arith, l));
    })

before-yes : (p x : ℕ) {u : Bool} → u ≡ true → named_before p u x ≡ true → x < p
before-yes p x e t = ltb-true _ _ (rw e at t)

before_any : (p x : ℕ) (u : Bool) → 0 < p → named_before p u x ≡ true → x < p
before_any p x true l t = ltb-true _ _ t
before_any p x false l t = let e : x ≡ 0 = eqb-true _ _ t in omega arith

module _ (w p : ℕ) (f : formed w p ≡ true) where
  abbrev s : Step
  s = step_of w

  pub few-kinds : s.kind ≤ 11
  few-kinds = decide (leb s.kind 11) (leb-true _ _) (λ t. absurd (formed-right w p f (no_kind (leb-false _ _ t))))

  pub operands_early : (s.kind ≡ 0 → ⊥) → (s.a < p) × (s.b < p)
  operands_early n =
      let t = formed-tests w p f in
      let a : s.a < p = before-yes p s.a (uses-a s.kind few-kinds n) t.a in
      (a, before_any p s.b (uses_of s.kind).b (omega arith) t.b)

-- one of a list that was made from another
map_at : (f : Poly → ℕ) (l : List Poly) (j : ℕ) → j < length l → get_or (map f l) j 0 ≡ f (get_or l j no_value)
map_at f [] j h = absurd (omega arith)
map_at f (x ∷ l) zero h = refl
map_at f (x ∷ l) (suc j) h = map_at f l j (omega arith)

-- ---- values end to end

laid_snoc : (xs : List Header) (ys : List Poly) (h : Header) (v : Poly) → length ys ≡ length xs
    → laid (xs ++ (h ∷ [])) (ys ++ (v ∷ [])) ≡ laid xs ys ++ padded (stored h) v.coeffs
unfolding laid
laid_snoc [] [] h v e = append-nil (padded (stored h) v.coeffs)
laid_snoc [] (y ∷ ys) h v e = absurd (omega (arith, e))
laid_snoc (x ∷ xs) [] h v e = absurd (omega (arith, e))
laid_snoc (x ∷ xs) (y ∷ ys) h v e =
    ap (λ (l : List Float). padded (stored x) y.coeffs ++ l) (laid_snoc xs ys h v (omega (arith, e)))
    ∙ sym (append_assoc (padded (stored x) y.coeffs) (laid xs ys) (padded (stored h) v.coeffs))

pub total-front : (known : List Header) (i : ℕ) → total (take i known) ≤ total known
unfolding total
total-front known zero = omega arith
total-front [] (suc i) = omega arith
total-front (h ∷ known) (suc i) = omega (arith, total-front known i)

input-head : (hs : List ℕ) (cs : List Float) (q : ℕ) → head_at (input_heads hs) q ≡ (value_at (input_values hs cs) q).head
unfolding input_values
input-head [] cs q = refl
input-head (w ∷ ws) cs zero = refl
input-head (w ∷ ws) cs (suc q) = input-head ws (drop (stored (header_of w)) cs) q

-- ---- the run

-- the check accepts, the buffers are as long as it says, and the words that the places announce are known
pub record Admitted (it : Recipe) (cs : List Float) (known : List ℕ) (mp ms : ℕ) : Type 0 where
  pub none : (check_refusal it).number ≡ 0
  pub full : total (input_heads it.headers) ≤ length cs
  pub pool : total (announced_steps it) ≤ mp
  pub room : 8 * largest (announced_steps it) ≤ ms
  pub noted : heads (length it.headers + length it.steps) known ≡ announced_places it
  pub many : 64 ≤ length known

-- old the words and the pool as they came
pub record Running (it : Recipe) (cs : List Float) (old-known : List ℕ) (old-pool : List Float) (i at : ℕ)
    (known starts : List ℕ) (pool : List Float) : Type 0 where
  pub most : i ≤ length it.steps
  pub offset : at ≡ total (take i (announced_steps it))
  pub len-known : length known ≡ length old-known
  pub len-starts : 64 ≤ length starts
  pub len-pool : length pool ≡ length old-pool
  pub true-heads : (q : ℕ) → q < length it.headers + i → header_of (get_or known q 0) ≡ (value_at (values (up_to it i) cs) q).head
  pub written : (j : ℕ) → j < i → get_or known (length it.headers + j) 0 ≡ word_of (value_at (values (up_to it i) cs) (length it.headers + j)).head
  pub later : (q : ℕ) → length it.headers + i ≤ q → get_or known q 0 ≡ get_or old-known q 0
  pub placed : (j : ℕ) → j < length it.steps → get_or starts (length it.headers + j) 0 ≡ total (take j (announced_steps it))
  pub stands : (q : ℕ) → q < length it.headers + i
      → At (ltb q (length it.headers)) (get_or starts q 0) cs (take at pool) (value_at (values (up_to it i) cs) q)
  pub lies : take at pool ≡ laid (take i (announced_steps it)) (drop (length it.headers) (values (up_to it i) cs))
  pub rest : drop at pool ≡ drop at old-pool

module _ {it : Recipe} {cs : List Float} {old-known : List ℕ} {mp ms : ℕ} (g : Admitted it cs old-known mp ms) where
  abbrev k : ℕ
  k = length it.headers

  abbrev ed : ℕ
  ed = it.edition

  pub fit : k + length it.steps ≤ 64
  fit = (accepts it g.none).sizes.fit

  count-inputs : length (input_values it.headers cs) ≡ k
  count-inputs = length-inputs it.headers cs ∙ length-map it.headers header_of

  pub length-values : (i : ℕ) → i ≤ length it.steps → length (values (up_to it i) cs) ≡ k + i
  unfolding values
  length-values i l = omega
      (arith, length-chain (step_value it.edition) (input_values it.headers cs) (take i it.steps), count-inputs, length-take-le i it.steps l)

  -- what the word of a place that has no value yet announces
  noted-at : (q : ℕ) → q < k + length it.steps → header_of (get_or old-known q 0) ≡ head_at (announced_places it) q
  noted-at q l =
      ap header_of (sym (get_or-take (k + length it.steps) old-known q 0 l))
      ∙ (sym (head_at_lem (take (k + length it.steps) old-known) q) ∙ ap (λ (x : List Header). head_at x q) g.noted)

  first_head : (q : ℕ) → q < k → head_at (announced_places it) q ≡ (value_at (input_values it.headers cs) q).head
  unfolding announced_places
  first_head q l =
      let e : take k (chain (announced_step it.edition) (input_heads it.headers) it.steps) ≡ input_heads it.headers =
      chain-keeps (announced_step it.edition) (input_heads it.headers) it.steps k (omega (arith, length-map it.headers header_of))
      ∙ take_all k (input_heads it.headers) (omega (arith, length-map it.headers header_of)) in
      sym (get_or-take k (chain (announced_step it.edition) (input_heads it.headers) it.steps) q no_header l)
      ∙ (ap (λ (x : List Header). head_at x q) e ∙ input-head it.headers cs q)

  -- ---- at the beginning
  pub running_none : {starts : List ℕ} (pool : List Float) → Placing (input_heads it.headers) (announced_steps it) starts → 64 ≤ length starts
      → Running it cs old-known pool 0 (total (take 0 (announced_steps it))) old-known starts pool
  unfolding total values chain laid
  running_none {starts} pool p l =
      let n : length (input_heads it.headers) ≡ k = length-map it.headers header_of in
      record {
        most = omega arith;
        offset = refl;
        len-known = refl;
        len-starts = l;
        len-pool = refl;
        true-heads = λ q h. noted-at q (omega arith) ∙ first_head q (omega arith);
        written = λ j h. absurd (omega arith);
        later = λ q h. refl;
        placed = λ j h. rw (← n) (p.steps j (omega (arith, length-announced it)));
        stands = λ q h. rw (lt-ltb q k (omega arith), p.inputs q (omega (arith, n))) (input-at it.headers cs q (omega arith) g.full);
        lies = refl;
        rest = refl;
      }

  -- where the next value begins: as it is placed, and as it lies
  pub running-from : {old-pool : List Float} {i : ℕ} {known starts : List ℕ} {pool : List Float}
      → Running it cs old-known old-pool i (total (take i (announced_steps it))) known starts pool → i < length it.steps
      → Running it cs old-known old-pool i (get_or starts (k + i) 0) known starts pool
  running-from {i = i} r l = rw (r.placed i l) r

  pub running-at : {old-pool : List Float} {i at : ℕ} {known starts : List ℕ} {pool : List Float}
      → Running it cs old-known old-pool i at known starts pool
      → Running it cs old-known old-pool i (total (take i (announced_steps it))) known starts pool
  running-at r = rw r.offset at r

  -- ---- one step more
  module _ {old-pool : List Float} {i at : ℕ} {known starts : List ℕ} {pool : List Float}
      (r : Running it cs old-known old-pool i at known starts pool) (l : i < length it.steps) where
    abbrev w : ℕ
    w = get_or it.steps i 0

    abbrev before : List Header
    before = announced_places (up_to it i)

    abbrev vs : List Poly
    vs = values (up_to it i) cs

    abbrev step : Step
    step = step_of w

    next : head_at (announced_steps it) i ≡ announced_step ed w before
    unfolding announced_steps
    next = get_or-drop k (announced_places it) i no_header ∙ announced-at it i l

    announced-rules : Regular (announced_step ed w before)
    announced-rules = step-regular ed w (follows-known (ahead-at it cs g.none g.full g.room i).now)

    head-is : header_of (get_or known (k + i) 0) ≡ announced_step ed w before
    head-is = ap header_of (r.later (k + i) (omega arith)) ∙ (noted-at (k + i) (omega arith) ∙ announced-at it i l)

    pub room_ruled : Ruled (header_of (get_or known (k + i) 0))
    room_ruled = rw head-is announced-rules.rules

    -- its announced count
    pub room-is : stored (header_of (get_or known (k + i) 0)) ≡ stored (announced_step ed w before)
    room-is = ap stored head-is

    clear-now : Clear ed w before
    clear-now = clear_at_lem it cs g.none g.full g.room i l

    ready-now : StepReady ed w vs (stored (announced_step ed w before)) ms
    ready-now = ready_at it cs g.none g.full g.room i l

    keeps-now : Keeps (announced_step ed w before) (step_value ed w vs)
    keeps-now = keeps_at_lem it cs g.none g.full g.room i l

    pub formed-at : formed w (k + i) ≡ true
    unfolding announced_places
    formed-at = rw (length-known it i l) at clear-now.formed

    same-value : value_in ed step (value_at vs step.a) (value_at vs step.b) ≡ step_value ed w vs
    unfolding value_in step_value
    same-value = refl

    sum-next : total (take (i + 1) (announced_steps it)) ≡ at + stored (announced_step ed w before)
    sum-next = rw (add-one i) (total-more (announced_steps it) i (omega (arith, length-announced it)) ∙ omega (arith, r.offset, ap stored next))

    module _ {room : ℕ} (er : room ≡ stored (announced_step ed w before)) where
      fits : at + room ≤ mp
      fits = omega (arith, sum-next, total-front (announced_steps it) (i + 1), g.pool)

      pub step-lent : length pool ≡ mp → Lent room at (length pool) ms
      unfolding announced_places
      step-lent e = record { room = omega (arith, fits); spare = omega (arith, step-largest it i l, g.room); small = omega (arith, clear-now.most) }

      length_before : length pool ≡ mp → length (take at pool) ≡ at
      length_before e = length-take-le at pool (omega (arith, fits))

      -- a place that has its value is where it is said to be
      pub place_is : (q : ℕ) → q < k + i → lying_at k known starts cs (take at pool) q ≡ value_at vs q
      place_is q h = rw (r.true-heads q h) (at-lying (r.stands q h))

      number-below : 7 ≤ step.kind → step.kind ≤ 9 → step.n < limit (value_at vs step.a).head step.variable
      number-below h t = ltb-true _ _ (rw (le-leb 7 step.kind h, le-leb step.kind 9 t) at ready-now.number)

      named : length pool ≡ mp → (step.kind ≡ 0 → ⊥) → Named step k known starts (length cs) at room
      named e n =
          let o = operands_early w (k + i) formed-at n in
          let ha = r.true-heads step.a o.0 in
          let hb = r.true-heads step.b o.1 in
          let kn = r.len-known in
          let st = r.len-starts in
          record {
            a_known = omega (arith, o.0, fit, g.many);
            a_starts = omega (arith, o.0, fit);
            b_known = omega (arith, o.1, fit, g.many);
            b_starts = omega (arith, o.1, fit);
            ready = rw (ha, hb) (record {
              left = ready-now.a.good;
              right = ready-now.b.good;
              known = record { some = omega arith; most = few-kinds w (k + i) formed-at; var = λ h t. small-variable w; below = number-below };
              fits = plain_fits ed step _ _ (rw er (count-pos (lengths_of_lem announced-rules.rules))) (rw er ready-now.room.fits);
            });
            placed =
                rw (
                  ha,
                  hb,
                ) (record { left = at_lies (r.stands step.a o.0) (length_before e); right = at_lies (r.stands step.b o.1) (length_before e) });
          }

      pub step_in_lem : length pool ≡ mp → StepIn step k known starts (length cs) at room
      step_in_lem e = record { some = rw er (count-pos (lengths_of_lem announced-rules.rules)); named = named e }

      -- ---- after it

      -- its value is the operation's
      value-is : value_in ed step (lying_at k known starts cs (take at pool) step.a) (lying_at k known starts cs (take at pool) step.b) ≡ step_value ed w vs
      value-is =
          decide (eqb step.kind 0)
          (λ t. let e = eqb-true step.kind 0 t in
          sym (constant-value ed step _ _ e)
          ∙ (constant-value ed step (value_at vs step.a) (value_at vs step.b) e ∙ same-value))
          (λ t. let o = operands_early w (k + i) formed-at (eqb-false step.kind 0 t) in
          ap (λ (v : Poly). value_in ed step v (lying_at k known starts cs (take at pool) step.b)) (place_is step.a o.0)
          ∙ (ap (value_in ed step (value_at vs step.a)) (place_is step.b o.1) ∙ same-value))

      pub next-values : values (up_to it (i + 1)) cs ≡ vs ++ (step_value ed w vs ∷ [])
      unfolding values
      next-values =
          rw (add-one i) (ap (chain (step_value it.edition) (input_values it.headers cs)) (take-suc it.steps i 0 l)
          ∙ (chain_append (step_value it.edition) (input_values it.headers cs) (take i it.steps) (w ∷ [])
          ∙ (chain_cons (step_value it.edition) vs w [] ∙ chain-none (step_value it.edition) (vs ++ (step_value ed w vs ∷ [])))))

      old_value : (q : ℕ) → q < k + i → value_at (vs ++ (step_value ed w vs ∷ [])) q ≡ value_at vs q
      old_value q h = get_or-append vs (step_value ed w vs ∷ []) no_value q (omega (arith, length-values i r.most))

      new-value : value_at (vs ++ (step_value ed w vs ∷ [])) (k + i) ≡ step_value ed w vs
      new-value = get_or_at vs (step_value ed w vs) [] no_value (k + i) (length-values i r.most)

      module _ {word : ℕ} {pool' : List Float} (e : length pool ≡ mp)
          (ew : word ≡ word_of (value_in ed step (lying_at k known starts cs (take at pool) step.a) (lying_at k known starts cs (take at pool) step.b)).head)
          (ek : Kept at (at + room)
          (padded room (value_in ed step (lying_at k known starts cs (take at pool) step.a)
          (lying_at k known starts cs (take at pool) step.b)).coeffs) pool pool') where
        abbrev v : Poly
        v = step_value ed w vs

        word-is : word ≡ word_of v.head
        word-is = ew ∙ ap (λ (p : Poly). word_of p.head) value-is

        kept : Kept at (at + room) (padded room v.coeffs) pool pool'
        kept = rw value-is at ek

        abbrev known' : List ℕ
        known' = set known (k + i) word

        abbrev after : List Float
        after = take (at + room) pool'

        len_pool' : length pool' ≡ length pool
        len_pool' = kept.below.len

        small : length known ≡ length old-known
        small = r.len-known

        at_place : (q : ℕ) → q < k + (i + 1) → (q ≡ k + i → ⊥) → q < k + i
        at_place q h n = omega arith

        head-new : header_of word ≡ v.head
        head-new = ap header_of word-is ∙ unpack-pack v.head keeps-now.regular

        heads-more : (q : ℕ) → q < k + (i + 1) → header_of (get_or known' q 0) ≡ (value_at (vs ++ (v ∷ [])) q).head
        heads-more q h =
            decide (eqb q (k + i))
            (λ t. let z : q ≡ k + i = eqb-true q (k + i) t in
            rw z (ap header_of (get_or-set_same known (k + i) word 0 (omega (arith, fit, g.many, small)))
            ∙ (head-new ∙ ap (λ (p : Poly). p.head) (sym new-value))))
            (λ t. let n = eqb-false q (k + i) t in let o = at_place q h n in
            ap header_of (get_or-set_other known (k + i) q word 0 n) ∙ (r.true-heads q o ∙ ap (λ (p : Poly). p.head) (sym (old_value q o))))

        written-more : (j : ℕ) → j < i + 1 → get_or known' (k + j) 0 ≡ word_of (value_at (vs ++ (v ∷ [])) (k + j)).head
        written-more j h =
            decide (eqb j i)
            (λ t. let z : j ≡ i = eqb-true j i t in
            rw z (get_or-set_same known (k + i) word 0 (omega (arith, fit, g.many, small))
            ∙ (word-is ∙ ap (λ (p : Poly). word_of p.head) (sym new-value))))
            (λ t. let n : k + j ≡ k + i → ⊥ = λ z. eqb-false j i t (omega (arith, z)) in let o : j < i = omega (arith, eqb-false j i t) in
            get_or-set_other known (k + i) (k + j) word 0 n ∙ (r.written j o ∙ ap (λ (p : Poly). word_of p.head) (sym (old_value (k + j) (omega arith)))))

        later_more : (q : ℕ) → k + (i + 1) ≤ q → get_or known' q 0 ≡ get_or old-known q 0
        later_more q h = let n : q ≡ k + i → ⊥ = λ z. omega arith in get_or-set_other known (k + i) q word 0 n ∙ r.later q (omega arith)

        longer : at + room ≤ length pool'
        longer = omega (arith, len_pool', fits)

        front_same : take at after ≡ take at pool
        front_same = take-take at (at + room) pool' (omega arith) ∙ kept.below.head

        stands-more : (q : ℕ) → q < k + (i + 1) → At (ltb q k) (get_or starts q 0) cs after (value_at (vs ++ (v ∷ [])) q)
        stands-more q h =
            decide (eqb q (k + i))
            (λ t. let z : q ≡ k + i = eqb-true q (k + i) t in
            rw (z, le-ltb (k + i) k (omega arith), r.placed i l ∙ sym r.offset, new-value)
            (at_new cs kept keeps-now.full (omega (arith, count_under keeps-now.under, er)) longer))
            (λ t. let n = eqb-false q (k + i) t in let o = at_place q h n in
            rw (old_value q o)
            (at_later (ltb q k) (r.stands q o) (length_before e) front_same (omega (arith, length-take-le (at + room) pool' longer))))

        lies_more : after ≡ laid (take (i + 1) (announced_steps it)) (drop k (vs ++ (v ∷ [])))
        lies_more =
            let len : length (take i (announced_steps it)) ≡ i = length-take-le i (announced_steps it) (omega (arith, length-announced it)) in
            let z : at + room - at ≡ room = omega arith in
            let d : drop k (vs ++ (step_value ed w vs ∷ [])) ≡ drop k vs ++ (step_value ed w vs ∷ []) =
            drop-append-le k vs (step_value ed w vs ∷ []) (omega (arith, length-values i r.most)) in
            let t : take (i + 1) (announced_steps it) ≡ take i (announced_steps it) ++ (announced_step ed w before ∷ []) =
            rw (add-one i) (take-suc (announced_steps it) i no_header (omega (arith, length-announced it))
            ∙ ap (λ (h : Header). take i (announced_steps it) ++ (h ∷ [])) next) in
            take-add at room pool'
            ∙ (ap (λ (x : List Float). x ++ take room (drop at pool')) (kept.below.head ∙ r.lies)
            ∙ (ap (λ (x : List Float). laid (take i (announced_steps it)) (drop k vs) ++ x)
            (ap (λ (n : ℕ). take n (drop at pool')) (sym z)
            ∙ (kept.holds ∙ ap (λ (n : ℕ). padded n (step_value ed w vs).coeffs) er))
            ∙ (sym (laid_snoc (take i (announced_steps it)) (drop k vs) (announced_step ed w before) (step_value ed w vs)
            (omega (arith, len, length-drop k vs, length-values i r.most)))
            ∙ rw (t, d))))

        rest_more : drop (at + room) pool' ≡ drop (at + room) old-pool
        rest_more = kept.above ∙ (sym (drop-drop room at pool) ∙ (ap (drop room) r.rest ∙ drop-drop room at old-pool))

        pub running_more : Running it cs old-known old-pool (i + 1) (at + room) (set known (k + i) word) starts pool'
        running_more =
            record {
              most = omega arith;
              offset = omega (arith, sum-next, er);
              len-known = length-set known (k + i) word ∙ r.len-known;
              len-starts = r.len-starts;
              len-pool = len_pool' ∙ r.len-pool;
              true-heads = λ q h. rw next-values (heads-more q h);
              written = λ j h. rw next-values (written-more j h);
              later = later_more;
              placed = r.placed;
              stands = λ q h. rw next-values (stands-more q h);
              lies = rw next-values lies_more;
              rest = rest_more;
            }

  -- ---- at the end
  module _ {old-pool : List Float} {i at : ℕ} {known starts : List ℕ} {pool : List Float}
      (r : Running it cs old-known old-pool i at known starts pool) (l : length it.steps ≤ i) where
    all_done : i ≡ length it.steps
    all_done = omega (arith, r.most)

    all-steps : take i it.steps ≡ it.steps
    all-steps = take_all i it.steps l

    pub end-pool : pool ≡ laid (announced_steps it) (step_values it cs) ++ drop (total (announced_steps it)) old-pool
    unfolding step_values
    end-pool =
        let t : take i (announced_steps it) ≡ announced_steps it = take_all i (announced_steps it) (omega (arith, length-announced it)) in
        let o : at ≡ total (announced_steps it) = r.offset ∙ ap total t in
        let f : take at pool ≡ laid (announced_steps it) (drop k (values it cs)) = r.lies ∙ rw (t, all-steps) in
        sym (take-append-drop at pool)
        ∙ (ap (λ (x : List Float). x ++ drop at pool) f
        ∙ ap (λ (x : List Float). laid (announced_steps it) (drop k (values it cs)) ++ x) (r.rest ∙ ap (λ (n : ℕ). drop n old-pool) o))

    pub end-words : take (length it.steps) (drop k known) ≡ map (λ v. word_of v.head) (step_values it cs)
    unfolding step_values
    end-words =
        let word : Poly → ℕ = λ v. word_of v.head in
        let m : length (values (up_to it i) cs) ≡ k + length it.steps = omega (arith, length-values i r.most, all_done) in
        let n : length (values it cs) ≡ k + length it.steps = ap (λ (x : List ℕ). length (values (recipe_of ed it.headers x) cs)) (sym all-steps) ∙ m in
        let d : length (drop k (values it cs)) ≡ length it.steps = omega (arith, length-drop k (values it cs)) in
        let len : length (take (length it.steps) (drop k known)) ≡ length it.steps =
        length-take-le (length it.steps) (drop k known)
        (omega (arith, length-drop k known, r.len-known, g.many, fit)) in
        ext_get_or 0 (take (length it.steps) (drop k known)) (map word (drop k (values it cs))) (len ∙ sym (length-map (drop k (values it cs)) word ∙ d))
        (λ j h.
        let m : j < length it.steps = omega (arith, len) in
        get_or-take (length it.steps) (drop k known) j 0 m
        ∙ (get_or-drop k known j 0
        ∙ (r.written j (omega arith)
        ∙ (ap (λ (x : List ℕ). word (value_at (values (recipe_of ed it.headers x) cs) (k + j))) all-steps
        ∙ (ap word (sym (get_or-drop k (values it cs) j no_value)) ∙ sym (map_at word (drop k (values it cs)) j (omega (arith, d))))))))
