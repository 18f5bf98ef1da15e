-- The entry's short way: the tests that `own` makes let no call pass that the gate refuses, and what is made then is
-- what the entry owes.
use Rattle.std.specs.Prelude.{Ok, ℕ, ◌+◌, ◌*◌, ◌%◌, ◌^◌, ◌≤◌, ◌<◌, List, ◌++◌, Bool, ◌&&◌, ◌≡◌, ltb, eqb, length, take, drop, Float}
use Rattle.std.proofs.Math.Bool.{true, false}
use Rattle.std.proofs.Math.Path.{refl, sym, ap}
use Rattle.std.proofs.Common.{◌∙◌, arith, length-take-le, leb-true, ltb-true, eqb-true, le-leb, eq-eqb}
use Rattle.std.proofs.Math.Dec.{leb}
use Rattle.lists.specs.Test.{and_left, and_right, decide}
use Rattle.lists.specs.Four.{at}
use Rattle.lists.specs.Table.{length-table}
use Rattle.model.specs.declared.Header.{Header}
use Rattle.product.specs.declared.kernel.Way.{Way}
use Rattle.product.specs.Chosen.{kind_of}
use Rattle.model.specs.declared.Refusal.{Refusal}
use Rattle.model.specs.declared.Family.TheVariants.{Product}
use Rattle.model.specs.Header.{header, limit, len, count, stored, good_header}
use Rattle.model.specs.Word.{header_of, good_word, word_of}
use Rattle.model.specs.Refusals.{zeros, no_refusal, leaves, cleared}
use Rattle.model.specs.Gates.{full, pair_gate, announced_pair}
use Rattle.model.specs.Poly.{Poly, poly, poly_of, held, block}
use Rattle.model.specs.Product.{multiplied, product_poly, product_answer, product_out, product_scratch}
use Rattle.shape_words.specs.Rules.{Ruled, Good, ruled-at, header-good}
use Rattle.shape_words.specs.Lengths.{Lengths, lengths_of_lem}
use Rattle.shape_words.specs.Sound.{good_word-is}
use Rattle.shape_words.specs.Words.{good_word_lem, pack_unpack}
use Rattle.product_kept.specs.Kept.{keeps_header, KeepsLength, Keeps, keeps_header_lem, keeps_ruled, keeps-announced}
use Rattle.gates.specs.Gate.{PairReady, pair-ready}
use Rattle.blocks.specs.Entry.{done-answer, done_full}
use Rattle.laws_keeps.specs.Sits.{Sits}
use Rattle.product.specs.Room.{Caps}
use Rattle.product.specs.Own.{long_way, light_way, owns, own_count, short_way, Owns, Shortens, ShortRoom, short_places}
use Rattle.product.specs.Short.{light-is, short-var, short-value}

-- ---- the gate

-- the gate lets it pass
pub owns-it : (w ma u mb mo ms : ℕ) {x y : Header} {n m : ℕ} → x ≡ header_of w → y ≡ header_of u → good_word w ≡ true
    → Keeps x y → eqb (u % 2 ^ 5) 0 ≡ true → n ≡ stored x → m ≡ stored y
    → 1 < n → m ≤ 2 → n ≤ ma → m ≤ mb → n ≤ mo → 8 * n ≤ ms → Owns w ma u mb mo ms n
unfolding pair_gate
owns-it w ma u mb mo ms {x} {y} {n} {m} ex ey g k z en em big few fa fb fo fs =
    let kw : Keeps (header_of w) (header_of u) = rw (ex, ey) at k in
    let gw = good_word_lem w g in
    let nw : n ≡ stored (header_of w) = rw ex at en in
    let mu : m ≡ stored (header_of u) = rw ey at em in
    let gu : good_word u ≡ true = good_word-is u ∙ simp (header-good (keeps_ruled gw.regular.rules kw) (omega arith), z) in
    let t : announced_pair Product w u ≡ header_of w = keeps-announced gw.regular kw in
    let most = gw.most in
    record {
      gate =
          simp (
            g,
            gu,
            le-leb (stored (header_of w)) ma (omega arith),
            le-leb (stored (header_of u)) mb (omega arith),
            t,
            le-leb (stored (header_of w)) 4096 most,
            le-leb (stored (header_of w)) mo (omega arith),
            le-leb (8 * stored (header_of w)) ms (omega arith),
          );
      told = t;
      keeps = kw;
      count = nw;
      big = big;
    }

-- two tests, each of which follows from the other
both_ways : (a b : Bool) → (a ≡ true → b ≡ true) → (b ≡ true → a ≡ true) → a ≡ b
both_ways true b f g = sym (f refl)
both_ways false true f g = g refl
both_ways false false f g = refl

-- the tests that are made: of words and headers, and of the places
abbrev first_test : ℕ → ℕ → Bool
first_test w u = (good_word w && keeps_header (header_of w) (header_of u)) && eqb (u % 2 ^ 5) 0

abbrev room_test : ℕ → ℕ → ℕ → ℕ → ℕ → ℕ → Bool
room_test n ma m mb mo ms = ((((ltb 1 n && leb m 2) && leb n ma) && leb m mb) && leb n mo) && leb (8 * n) ms

module _ (w ma u mb mo ms : ℕ) where
  abbrev n : ℕ
  n = stored (header_of w)

  abbrev m : ℕ
  m = stored (header_of u)

  -- what `owns` says
  module _ (t : owns w ma u mb mo ms ≡ true) where
    passed : (eqb (pair_gate Product w ma u mb mo ms).number 0 && keeps_header (header_of w) (header_of u)) ≡ true
    unfolding owns
    passed = and_left (eqb (pair_gate Product w ma u mb mo ms).number 0 && keeps_header (header_of w) (header_of u)) (ltb 1 n && leb m 2) t

    sizes : (ltb 1 n && leb m 2) ≡ true
    unfolding owns
    sizes = and_right (eqb (pair_gate Product w ma u mb mo ms).number 0 && keeps_header (header_of w) (header_of u)) (ltb 1 n && leb m 2) t

    let_pass : PairReady Product w ma u mb mo ms
    let_pass =
        pair-ready Product w ma u mb mo ms
        (eqb-true _ _ (and_left (eqb (pair_gate Product w ma u mb mo ms).number 0) (keeps_header (header_of w) (header_of u)) passed))

    kept_test : keeps_header (header_of w) (header_of u) ≡ true
    kept_test = and_right (eqb (pair_gate Product w ma u mb mo ms).number 0) (keeps_header (header_of w) (header_of u)) passed

    spare_bits : eqb (u % 2 ^ 5) 0 ≡ true
    spare_bits = and_right (good_header (header_of u)) (eqb (u % 2 ^ 5) 0) (sym (good_word-is u) ∙ let_pass.word_b)

    told-left : announced_pair Product w u ≡ header_of w
    told-left = keeps-announced let_pass.good_a.regular (keeps_header_lem _ _ kept_test)

    room_out : n ≤ mo
    room_out = omega (arith, ap stored told-left, let_pass.room)

    room-scratch : 8 * n ≤ ms
    room-scratch = omega (arith, ap stored told-left, let_pass.spare)

    pub owns_worth : Owns w ma u mb mo ms n
    owns_worth =
        owns-it w ma u mb mo ms refl refl let_pass.word_a (keeps_header_lem _ _ kept_test) spare_bits refl refl
        (ltb-true _ _ (and_left (ltb 1 n) (leb m 2) sizes)) (leb-true _ _ (and_right (ltb 1 n) (leb m 2) sizes))
        let_pass.full_a let_pass.full_b room_out room-scratch

    owns-first : first_test w u ≡ true
    owns-first = rw (let_pass.word_a, kept_test, spare_bits)

    owns-room : room_test n ma m mb mo ms ≡ true
    owns-room = rw (sizes, le-leb n ma let_pass.full_a, le-leb m mb let_pass.full_b, le-leb n mo room_out, le-leb (8 * n) ms room-scratch)

  -- what the tests say
  tests-own : (first_test w u && room_test n ma m mb mo ms) ≡ true → owns w ma u mb mo ms ≡ true
  unfolding owns
  tests-own h =
      let f = and_left (first_test w u) (room_test n ma m mb mo ms) h in
      let t = and_right (first_test w u) (room_test n ma m mb mo ms) h in
      let g = and_left (good_word w && keeps_header (header_of w) (header_of u)) (eqb (u % 2 ^ 5) 0) f in
      let good = and_left (good_word w) (keeps_header (header_of w) (header_of u)) g in
      let keep = and_right (good_word w) (keeps_header (header_of w) (header_of u)) g in
      let t5 = and_left ((((ltb 1 n && leb m 2) && leb n ma) && leb m mb) && leb n mo) (leb (8 * n) ms) t in
      let t4 = and_left (((ltb 1 n && leb m 2) && leb n ma) && leb m mb) (leb n mo) t5 in
      let t3 = and_left ((ltb 1 n && leb m 2) && leb n ma) (leb m mb) t4 in
      let t2 = and_left (ltb 1 n && leb m 2) (leb n ma) t3 in
      let o =
      owns-it w ma u mb mo ms refl refl good (keeps_header_lem _ _ keep) (and_right
      (good_word w && keeps_header (header_of w) (header_of u)) (eqb (u % 2 ^ 5) 0) f)
      refl refl
      (ltb-true _ _ (and_left (ltb 1 n) (leb m 2) t2)) (leb-true _ _ (and_right (ltb 1 n) (leb m 2) t2))
      (leb-true _ _ (and_right (ltb 1 n && leb m 2) (leb n ma) t3))
      (leb-true _ _ (and_right ((ltb 1 n && leb m 2) && leb n ma) (leb m mb) t4))
      (leb-true _ _ (and_right (((ltb 1 n && leb m 2) && leb n ma) && leb m mb) (leb n mo) t5))
      (leb-true _ _ (and_right ((((ltb 1 n && leb m 2) && leb n ma) && leb m mb) && leb n mo) (leb (8 * n) ms) t)) in
      rw (eq-eqb (pair_gate Product w ma u mb mo ms).number 0 (ap (λ (q : Refusal). q.number) o.gate), keep, t2)

  owns-tests : owns w ma u mb mo ms ≡ (first_test w u && room_test n ma m mb mo ms)
  owns-tests =
      both_ways (owns w ma u mb mo ms) (first_test w u && room_test n ma m mb mo ms) (λ t. rw (owns-first t) (owns-room t)) tests-own

  -- the count, by the tests that are made: g whether w is good, k whether the header is kept
  module _ {x y : Header} (ex : x ≡ header_of w) (ey : y ≡ header_of u) {g k : Bool}
      (eg : g ≡ good_word w) (ek : k ≡ keeps_header x y) where
    first-is : ((g && k) && eqb (u % 2 ^ 5) 0) ≡ first_test w u
    first-is = rw (eg, ek, ex, ey)

    pub count_bad : ((g && k) && eqb (u % 2 ^ 5) 0) ≡ false → 0 ≡ own_count w ma u mb mo ms
    unfolding own_count
    count_bad h = let f : first_test w u ≡ false = sym first-is ∙ h in rw (owns-tests, f)

    module _ (h : ((g && k) && eqb (u % 2 ^ 5) 0) ≡ true) where
      pub tested-good : Good x
      tested-good = rw ex (good_word_lem w (sym eg ∙ and_left g k (and_left (g && k) (eqb (u % 2 ^ 5) 0) h)))

      pub tested_ruled : Ruled y
      tested_ruled = keeps_ruled tested-good.regular.rules (keeps_header_lem _ _ (sym ek ∙ and_right g k (and_left (g && k) (eqb (u % 2 ^ 5) 0) h)))

      module _ {i j : ℕ} (en : i ≡ stored x) (em : j ≡ stored y) where
        first-yes : first_test w u ≡ true
        first-yes = sym first-is ∙ h

        room-is : room_test i ma j mb mo ms ≡ room_test n ma m mb mo ms
        room-is = rw (en, em, ex, ey)

        pub count_yes : room_test i ma j mb mo ms ≡ true → i ≡ own_count w ma u mb mo ms
        unfolding own_count
        count_yes t = let r : room_test n ma m mb mo ms ≡ true = sym room-is ∙ t in rw (owns-tests, first-yes, r) (en ∙ ap stored ex)

        pub count_no : room_test i ma j mb mo ms ≡ false → 0 ≡ own_count w ma u mb mo ms
        unfolding own_count
        count_no t = let r : room_test n ma m mb mo ms ≡ false = sym room-is ∙ t in rw (owns-tests, first-yes, r)

-- a count that is not 0
pub owned_worth : (w ma u mb mo ms : ℕ) {n : ℕ} → n ≡ own_count w ma u mb mo ms → (n ≡ 0 → ⊥) → Owns w ma u mb mo ms n
unfolding own_count
owned_worth w ma u mb mo ms {n} e z =
    decide (owns w ma u mb mo ms)
    (λ t. let i : n ≡ stored (header_of w) = rw t at e in rw i (owns_worth w ma u mb mo ms t))
    (λ f. absurd (z (rw f at e)))

module _ (w : ℕ) (a : List Float) (u : ℕ) (b : List Float) (mo ms : ℕ) where
  -- a count that is 0
  pub short_none : {n : ℕ} → n ≡ own_count w (length a) u (length b) mo ms → n ≡ 0 → long_way ≡ short_way w a u b mo ms
  unfolding own_count short_way
  short_none {n} e z =
      decide (owns w (length a) u (length b) mo ms)
      (λ t.
      let i : n ≡ stored (header_of w) = rw t at e in
      absurd (omega (arith, i, z, (owns_worth w (length a) u (length b) mo ms t).big)))
      (λ f. rw f)

  pub short-some : {n : ℕ} → n ≡ own_count w (length a) u (length b) mo ms → (n ≡ 0 → ⊥) → {m : ℕ} {x y : Header} → x ≡ header_of w → y ≡ header_of u
      → m ≡ stored y → light_way (block x.lengths (take n a)) (block y.lengths (take m b)) ≡ short_way w a u b mo ms
  unfolding own_count short_way
  short-some {n} e z ex ey em =
      decide (owns w (length a) u (length b) mo ms)
      (λ t. let i : n ≡ stored (header_of w) = rw t at e in rw (t, i, em, ex, ey))
      (λ f. absurd (z (rw f at e)))

  -- a short way
  pub short_worth : {c : Way} → c ≡ short_way w a u b mo ms → (kind_of c ≡ 6 → ⊥) → Shortens w a u b mo ms c
  unfolding short_way
  short_worth {c} e z =
      decide (owns w (length a) u (length b) mo ms)
      (λ t.
      let i : c ≡ light_way (block (header_of w).lengths (take (stored (header_of w)) a))
      (block (header_of u).lengths (take (stored (header_of u)) b)) = rw t at e in
      record {
        owns = owns_worth w (length a) u (length b) mo ms t;
        light = rw i (light-is _ _ (λ k. z (ap kind_of i ∙ k)));
      })
      (λ f. absurd (z (ap kind_of (rw f at e))))

-- ---- the operands that the gate let pass

module _ {w ma u mb mo ms n : ℕ} (o : Owns w ma u mb mo ms n) where
  pub owned : PairReady Product w ma u mb mo ms
  owned = pair-ready Product w ma u mb mo ms (ap (λ (q : Refusal). q.number) o.gate)

  pub owned-full_a : n ≤ ma
  owned-full_a = omega (arith, o.count, owned.full_a)

  module _ {y : Header} (ey : y ≡ header_of u) where
    pub owned-right : Ruled y
    owned-right = rw ey owned.good_b.regular.rules

    module _ {m : ℕ} (em : m ≡ stored y) where
      pub owned-full_b : m ≤ mb
      owned-full_b = omega (arith, em, ap stored ey, owned.full_b)

      module _ {x : Header} (ex : x ≡ header_of w) (a b : List Float) (ea : ma ≡ length a) (eb : mb ≡ length b) where
        pub owned-lens : Lengths x.lengths × (Lengths y.lengths × ((length (take n a) ≡ count x.lengths) × (length (take m b) ≡ count y.lengths)))
        owned-lens =
            let gx : Ruled x = rw ex owned.good_a.regular.rules in (
              lengths_of_lem gx,
              (
                lengths_of_lem owned-right,
                (
                  length-take-le n a (omega (arith, ea, owned-full_a))
                      ∙ (o.count ∙ ap stored (sym ex)),
                  length-take-le m b (omega (arith, eb, owned-full_b)) ∙ em,
                ),
              ),
            )

-- what the two buffers hold then, h the left header
module _ (h : Header) {n : ℕ} (e : n ≡ stored h) (old : List Float) {o : List Float} where
  pub short-written : (w : Way) {x : Header} → x ≡ h → (a : List Float) → o ≡ short_places w x.lengths (take n a)
      → o ++ drop n old ≡ short_places w h.lengths (take (stored h) a) ++ drop (stored h) old
  short-written w ex a f = rw (f, ex, e)

  pub short-cleared : {k : ℕ} → o ≡ zeros k → k ≡ 8 * n → o ++ drop (8 * n) old ≡ zeros (8 * stored h) ++ drop (8 * stored h) old
  short-cleared f g = rw (f, g, e)

-- ---- the entry

module _ {w u mo ms : ℕ} {a b : List Float} {c : Way} (s : Shortens w a u b mo ms c) where
  ready : PairReady Product w (length a) u (length b) mo ms
  ready = owned s.owns

  abbrev x : Header
  x = header_of w

  abbrev xs : List Float
  xs = take (stored (header_of w)) a

  abbrev ys : List Float
  ys = take (stored (header_of u)) b

  caps : Caps x.limits
  caps = record { most = λ k l. (ruled-at ready.good_a.regular.rules k l).most }

  sits-left : Sits x.limits (block x.lengths xs)
  sits-left = record {
    ns = ready.good_a.regular.ns;
    lo = λ k l. (ruled-at ready.good_a.regular.rules k l).pos;
    hi = λ k l. (ruled-at ready.good_a.regular.rules k l).fit;
    full = length-take-le _ a ready.full_a;
  }

  sits-right : Sits x.limits (block (header_of u).lengths ys)
  sits-right = record {
    ns = ready.good_b.regular.ns;
    lo = λ k l. (ruled-at ready.good_b.regular.rules k l).pos;
    hi = λ k l. rw (← (s.owns.keeps.var k l).same) (ruled-at ready.good_b.regular.rules k l).fit;
    full = length-take-le _ b ready.full_b;
  }

  own-lengths : (k : ℕ) → k < 4 → KeepsLength (limit x k) (len x k) (limit x k) (len (header_of u) k)
  own-lengths k l = let q = s.owns.keeps.var k l in record { same = refl; pos = q.pos; fit = q.fit; own = q.own }

  many : 1 < count x.lengths
  many = s.owns.big

  pub short-room : {ko ks : ℕ} → ko ≡ mo → ks ≡ ms → ShortRoom c x (length a) ko ks
  short-room eo es =
      let t = ap stored s.owns.told in
      record {
        good = ready.good_a;
        full = ready.full_a;
        lent = omega (arith, t, ready.room);
        room = omega (arith, t, ready.spare);
        kind = s.light.kind;
        var = short-var sits-left sits-right caps many own-lengths s.light;
      }

  made : product_poly (held w a) (held u b) ≡ poly x (short_places c x.lengths xs)
  unfolding product_poly
  made = ap (λ (h : Header). poly_of h (multiplied h.limits (block x.lengths xs) (block (header_of u).lengths ys))) s.owns.told
      ∙ ap (poly_of x) (short-value sits-left sits-right caps many own-lengths s.light)

  short-length : length (short_places c x.lengths xs) ≡ stored x
  short-length = decide (eqb (kind_of c) 3) (λ e. rw e (length-table _ _)) (λ e. rw e (length-table _ _))

  pub short-answer : w < 2 ^ 64 → (out scratch : List Float) → mo ≡ length out → ms ≡ length scratch → Ok w ≡ product_answer w a u b out scratch
  unfolding product_answer
  short-answer fit out scratch eo es =
      let g : no_refusal ≡ pair_gate Product w (length a) u (length b) (length out) (length scratch) = rw (← eo, ← es) (sym s.owns.gate) in
      done-answer g x (product_poly (held w a) (held u b)) refl (sym (pack_unpack w fit ready.word_a) ∙ ap word_of (sym (ap (λ (p : Poly). p.head) made)))

  pub short-out : (out scratch : List Float) → mo ≡ length out → ms ≡ length scratch
      → short_places c x.lengths xs ++ drop (stored x) out ≡ product_out w a u b out scratch
  unfolding product_out
  short-out out scratch eo es =
      let g : no_refusal ≡ pair_gate Product w (length a) u (length b) (length out) (length scratch) = rw (← eo, ← es) (sym s.owns.gate) in
      done_full g (announced_pair Product w u) (product_poly (held w a) (held u b)) refl out
      (sym (ap stored s.owns.told)) (sym (ap (λ (p : Poly). p.coeffs) made)) short-length

  pub short_scratch : (out scratch : List Float) → mo ≡ length out → ms ≡ length scratch
      → zeros (8 * stored x) ++ drop (8 * stored x) scratch ≡ product_scratch w a u b out scratch
  unfolding product_scratch leaves cleared
  short_scratch out scratch eo es = rw (← eo, ← es, s.owns.gate, s.owns.told)
