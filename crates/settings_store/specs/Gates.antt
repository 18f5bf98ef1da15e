-- The ways through the calls' tests, one by one.
use Rattle.std.specs.Prelude.{Ok, Err, ℕ, ◌+◌, ◌≤◌, ◌<◌, Bool, true, false, List, ◌≡◌, refl, ltb, eqb}
use Rattle.std.specs.Result.{is_ok}
use Rattle.std.proofs.Common.{◌∙◌, true≢false}
use Rattle.std.proofs.Math.Path.{ap}
use borrow.Author.Tests.{ltb-true, eqb-true, lt-ltb, le-ltb, eq-eqb, ne_eqb}
use Rattle.model_settings.specs.declared.Content.{Content}
use Rattle.model_settings.specs.declared.Settled.{Settled}
use Rattle.model_settings.specs.declared.Unsettled.{Unsettled}
use Rattle.model_settings.specs.declared.Unsettled.TheVariants.{NoDepartment, OutOfRange, Stale, NotKept, LastVersion, NoStore}
use Rattle.model_settings.specs.Store.{Answer, last_version, in_range, kept, settled, told, refuse, ask, reading, reading_version, saving}
use Rattle.model_settings.specs.Store.{bringing}
use Rattle.model_settings.specs.Words.{held_at, valid, version_of, read_words, read_version_words, save_words, bring_words}
use Rattle.model_settings.specs.Words.{put, put_answer}
use Rattle.settings_store.specs.Tests.{held-range}

settled_in : Settled → Answer → Settled
settled_in d (Ok a) = a
settled_in d (Err q) = d

pub same-settled : {a b : Settled} → ◌≡◌ {A = Answer} (Ok a) (Ok b) → a ≡ b
unfolding settled_in
same-settled {a} e = ap (settled_in a) e

-- an answer that is no refusal passed its tests
pub record Passed (b : Bool) (x y : Answer) : Type 0 where
  pub test : b ≡ true
  pub is : x ≡ y

pub passed : (b : Bool) (q : Unsettled) {a : Settled} (y : Answer) → Ok a ≡ ask b q y → Passed b (Ok a) y
unfolding ask
passed true q y e = record { test = refl; is = e }
passed false q y e = absurd (true≢false (ap is_ok e))

-- what a call of department d on words w, accepted with answer a, has made of content c
pub record Accepted (w : List ℕ) (d f : ℕ) (c : Content) (a : Settled) : Type 0 where
  pub is : a ≡ settled (version_of w d + 1) c
  pub sound : valid w ≡ true
  pub department : d < 32
  pub from : f ≡ version_of w d
  pub version : a.version ≡ version_of w d + 1
  pub room : version_of w d < last_version
  pub range : in_range a.content ≡ true

module _ (w : List ℕ) (d : ℕ) where
  pub read_18 : valid w ≡ false → refuse NoStore ≡ read_words w d
  unfolding read_words reading ask
  read_18 h0 = rw (h0)

  pub read_3 : valid w ≡ true → 32 ≤ d → refuse NoDepartment ≡ read_words w d
  unfolding read_words reading ask
  read_3 h0 h1 = rw (h0, le-ltb _ _ h1)

  pub read_done : valid w ≡ true → d < 32 → told (version_of w d) (held_at w d (version_of w d)) ≡ read_words w d
  unfolding read_words reading ask
  read_done h0 h1 = rw (h0, lt-ltb _ _ h1)

module _ (w : List ℕ) (d u : ℕ) where
  pub version_18 : valid w ≡ false → refuse NoStore ≡ read_version_words w d u
  unfolding read_version_words reading_version ask
  version_18 h0 = rw (h0)

  pub version_3 : valid w ≡ true → 32 ≤ d → refuse NoDepartment ≡ read_version_words w d u
  unfolding read_version_words reading_version ask
  version_3 h0 h1 = rw (h0, le-ltb _ _ h1)

  pub version_14 : valid w ≡ true → d < 32 → kept (version_of w d) u ≡ false → refuse NotKept ≡ read_version_words w d u
  unfolding read_version_words reading_version ask
  version_14 h0 h1 h2 = rw (h0, lt-ltb _ _ h1, h2)

  pub version-done :
      valid w ≡ true → d < 32 → kept (version_of w d) u ≡ true → told u (held_at w d u) ≡ read_version_words w d u
  unfolding read_version_words reading_version ask
  version-done h0 h1 h2 = rw (h0, lt-ltb _ _ h1, h2)

module _ (w : List ℕ) (d from : ℕ) (c : Content) where
  pub save_18 : valid w ≡ false → refuse NoStore ≡ save_words w d from c
  unfolding save_words saving ask
  save_18 h0 = rw (h0)

  pub save_3 : valid w ≡ true → 32 ≤ d → refuse NoDepartment ≡ save_words w d from c
  unfolding save_words saving ask
  save_3 h0 h1 = rw (h0, le-ltb _ _ h1)

  pub save_4 : valid w ≡ true → d < 32 → in_range c ≡ false → refuse OutOfRange ≡ save_words w d from c
  unfolding save_words saving ask
  save_4 h0 h1 h2 = rw (h0, lt-ltb _ _ h1, h2)

  pub save-13 :
      valid w ≡ true → d < 32 → in_range c ≡ true → (from ≡ version_of w d → ⊥) → refuse Stale ≡ save_words w d from c
  unfolding save_words saving ask
  save-13 h0 h1 h2 h3 = rw (h0, lt-ltb _ _ h1, h2, ne_eqb _ _ h3)

  pub save-15 :
      valid w ≡ true → d < 32 → in_range c ≡ true → from ≡ version_of w d → last_version ≤ version_of w d
      → refuse LastVersion ≡ save_words w d from c
  unfolding save_words saving ask
  save-15 h0 h1 h2 h3 h4 = rw (h0, lt-ltb _ _ h1, h2, eq-eqb _ _ h3, le-ltb _ _ h4)

  pub save-done :
      valid w ≡ true → d < 32 → in_range c ≡ true → from ≡ version_of w d → version_of w d < last_version → told
      (version_of w d + 1) c ≡ save_words w d from c
  unfolding save_words saving ask
  save-done h0 h1 h2 h3 h4 = rw (h0, lt-ltb _ _ h1, h2, eq-eqb _ _ h3, lt-ltb _ _ h4)

module _ (w : List ℕ) (d from u : ℕ) where
  pub bring_18 : valid w ≡ false → refuse NoStore ≡ bring_words w d from u
  unfolding bring_words bringing ask
  bring_18 h0 = rw (h0)

  pub bring_3 : valid w ≡ true → 32 ≤ d → refuse NoDepartment ≡ bring_words w d from u
  unfolding bring_words bringing ask
  bring_3 h0 h1 = rw (h0, le-ltb _ _ h1)

  pub bring_13 : valid w ≡ true → d < 32 → (from ≡ version_of w d → ⊥) → refuse Stale ≡ bring_words w d from u
  unfolding bring_words bringing ask
  bring_13 h0 h1 h2 = rw (h0, lt-ltb _ _ h1, ne_eqb _ _ h2)

  pub bring-14 :
      valid w ≡ true → d < 32 → from ≡ version_of w d → kept (version_of w d) u ≡ false
      → refuse NotKept ≡ bring_words w d from u
  unfolding bring_words bringing ask
  bring-14 h0 h1 h2 h3 = rw (h0, lt-ltb _ _ h1, eq-eqb _ _ h2, h3)

  pub bring-15 :
      valid w ≡ true → d < 32 → from ≡ version_of w d → kept (version_of w d) u ≡ true → last_version ≤ version_of w d
      → refuse LastVersion ≡ bring_words w d from u
  unfolding bring_words bringing ask
  bring-15 h0 h1 h2 h3 h4 = rw (h0, lt-ltb _ _ h1, eq-eqb _ _ h2, h3, le-ltb _ _ h4)

  pub bring-done :
      valid w ≡ true → d < 32 → from ≡ version_of w d → kept (version_of w d) u ≡ true → version_of w d < last_version
      → told (version_of w d + 1) (held_at w d u) ≡ bring_words w d from u
  unfolding bring_words bringing ask
  bring-done h0 h1 h2 h3 h4 = rw (h0, lt-ltb _ _ h1, eq-eqb _ _ h2, h3, lt-ltb _ _ h4)

-- an accepted save and bringing back
module _ (w : List ℕ) (d from : ℕ) where
  pub save-accepted : (c : Content) {a : Settled} → Ok a ≡ save_words w d from c → Accepted w d from c a
  unfolding save_words saving
  save-accepted c {a} e =
      let p5 = told (version_of w d + 1) c in
      let p4 = ask (ltb (version_of w d) last_version) LastVersion p5 in
      let p3 = ask (eqb from (version_of w d)) Stale p4 in
      let p2 = ask (in_range c) OutOfRange p3 in
      let p1 = ask (ltb d 32) NoDepartment p2 in
      let q1 = passed (valid w) NoStore p1 e in
      let q2 = passed (ltb d 32) NoDepartment p2 q1.is in
      let q3 = passed (in_range c) OutOfRange p3 q2.is in
      let q4 = passed (eqb from (version_of w d)) Stale p4 q3.is in
      let q5 = passed (ltb (version_of w d) last_version) LastVersion p5 q4.is in
      let is = same-settled q5.is in
      record {
        is = is;
        sound = q1.test;
        department = ltb-true _ _ q2.test;
        from = eqb-true _ _ q4.test;
        version = ap (λ x. x.version) is;
        room = ltb-true _ _ q5.test;
        range = ap (λ x. in_range x.content) is ∙ q3.test;
      }

  pub bring-accepted :
      (u : ℕ) {a : Settled} → Ok a ≡ bring_words w d from u → Accepted w d from (held_at w d u) a
  unfolding bring_words bringing
  bring-accepted u {a} e =
      let p5 = told (version_of w d + 1) (held_at w d u) in
      let p4 = ask (ltb (version_of w d) last_version) LastVersion p5 in
      let p3 = ask (kept (version_of w d) u) NotKept p4 in
      let p2 = ask (eqb from (version_of w d)) Stale p3 in
      let p1 = ask (ltb d 32) NoDepartment p2 in
      let q1 = passed (valid w) NoStore p1 e in
      let q2 = passed (ltb d 32) NoDepartment p2 q1.is in
      let q3 = passed (eqb from (version_of w d)) Stale p3 q2.is in
      let q4 = passed (kept (version_of w d) u) NotKept p4 q3.is in
      let q5 = passed (ltb (version_of w d) last_version) LastVersion p5 q4.is in
      let is = same-settled q5.is in
      record {
        is = is;
        sound = q1.test;
        department = ltb-true _ _ q2.test;
        from = eqb-true _ _ q3.test;
        version = ap (λ x. x.version) is;
        room = ltb-true _ _ q5.test;
        range =
            ap (λ x. in_range x.content) is ∙ held-range w d u q1.test (ltb-true _ _ q2.test)
            q4.test;
      }

-- the words after a call
pub put-done :
    (w : List ℕ) (d : ℕ) {a : Settled} {b : Answer} → Ok a ≡ b → put w d a.version a.content ≡ put_answer w d b
unfolding put_answer
put-done w d {a} e = ap (put_answer w d) e

pub put-none : (w : List ℕ) (d : ℕ) {q : Unsettled} {b : Answer} → Err q ≡ b → w ≡ put_answer w d b
unfolding put_answer
put-none w d e = ap (put_answer w d) e
