-- Words that hold sound lists pass the test, and each call answers on the words as on the lists.
use Rattle.std.specs.Prelude.{ℕ, zero, suc, ◌+◌, ◌-◌, ◌*◌, ◌/◌, ◌%◌, ◌≤◌, ◌<◌, Bool, false, ◌&&◌, cond, List, ◌≡◌, refl, ltb, eqb}
use Rattle.std.proofs.Math.Bool.{true}
use Rattle.std.proofs.Common.{sym, ◌∙◌, ltb-true, ltb-false, eqb-true, le-leb, lt-ltb, eq-eqb}
use Rattle.std.proofs.Math.Path.{ap}
use native.Mathlib.Omega.{arith}
use Rattle.std.proofs.Math.ListN.{length, get_or}
use Rattle.std.proofs.Math.Arith.{digits_mod}
use Rattle.lists.specs.Test.{and_left, and_right}
use Rattle.lists.specs.Every.{every}
use Rattle.model_settings.specs.declared.Content.{Content}
use Rattle.model_settings.specs.declared.Unsettled.{Unsettled}
use Rattle.model_settings.specs.declared.Unsettled.TheVariants.{NoDepartment, OutOfRange, Stale, NotKept, LastVersion, NoStore}
use Rattle.model_settings.specs.Store.{State, versions, current, content_at, blank, fresh_content, in_range, last_version}
use Rattle.model_settings.specs.Store.{Answer, kept, ask, told, reading, reading_version, saving, bringing}
use Rattle.model_settings.specs.Words.{slot_at, held_at, version_of, same_content, good_slot, good_department, valid}
use Rattle.model_settings.specs.Words.{read_words, read_version_words, save_words, bring_words}
use Rattle.settings_store.specs.Tests.{kept-parts}
use Rattle.settings_laws.specs.Sound.{GoodList, Sound, HoldsList, Holds}

pub every-all : (f : ℕ → Bool) (n p : ℕ) → ((q : ℕ) → p ≤ q → q < p + n → f q ≡ true) → every f n p ≡ true
unfolding every
every-all f zero p h = refl
every-all f (suc n) p h = rw (h p (omega arith) (omega arith))
    (every-all f n (suc p) (λ q a b. h q (omega arith) (omega arith)))

-- the last version that is k mod 8
pub last_of : ℕ → ℕ → ℕ
last_of v k = v - (v - k) % 8

pub record LastOf (v k u : ℕ) : Type 0 where
  pub most : u ≤ v
  pub near : v < u + 8
  pub slot : u % 8 ≡ k

pub last_of_lem : (v k : ℕ) → k < 8 → k ≤ v → LastOf v k (v - (v - k) % 8)
last_of_lem v k a b =
    let m : v - (v - k) % 8 ≡ (v - k) / 8 * 8 + k = omega arith in
    record { most = omega arith; near = omega arith; slot = ap (λ (z : ℕ). z % 8) m ∙ digits_mod ((v - k) / 8) a }

same_true : (c : Content) → same_content c c ≡ true
unfolding same_content
same_true c =
    rw (
      eq-eqb c.chance c.chance refl,
      eq-eqb c.horizon c.horizon refl,
      eq-eqb c.recipe
          c.recipe refl,
    )

-- a slot that holds what it should
slot-good :
    (v : ℕ) (c : Content) (k : ℕ) → (v < k → c ≡ blank) → (k ≤ v → in_range c ≡ true) →
    (k ≡ 0 → v < 8 → c ≡ fresh_content) → good_slot v c k ≡ true
unfolding good_slot
slot-good v c k p q r = go (ltb v k) refl (eqb k 0 && ltb v 8) refl
  where
    go :
        (a : Bool) → ltb v k ≡ a → (b : Bool) → (eqb k 0 && ltb v 8) ≡ b → cond a (same_content c blank)
        (cond b (same_content c fresh_content) (in_range c)) ≡ true
    go true e b f = ap (λ z. same_content z blank) (p (ltb-true v k e)) ∙ same_true blank
    go false e true f =
        ap (λ z. same_content z fresh_content)
        (r (eqb-true k 0 (and_left (eqb k 0) (ltb v 8) f)) (ltb-true v 8 (and_right (eqb k 0) (ltb v 8) f)))
        ∙ same_true fresh_content
    go false e false f = q (ltb-false v k e)

module _ (w : List ℕ) (d : ℕ) (xs : List Content) (g : GoodList xs) (h : HoldsList w d xs) where
  v : ℕ
  v = length xs - 1

  pub list-slot :
      (k : ℕ) → k < 8 → k < length xs → slot_at w d k ≡ get_or xs (length xs - 1 - (length xs - 1 - k) % 8) blank
  list-slot k a b =
      let made = g.made in
      let u : ℕ = length xs - 1 - (length xs - 1 - k) % 8 in
      let l : LastOf (length xs - 1) k u = last_of_lem (length xs - 1) k a (omega arith) in
      ap (slot_at w d) (sym l.slot) ∙ h.slot u (omega (arith, l.most)) (omega (arith, l.near))

  pub list-good : version_of w d ≤ last_version → good_department w d ≡ true
  unfolding good_department
  list-good m = rw (le-leb _ _ m) (every-all (λ k. good_slot (version_of w d) (slot_at w d k) k) 8 0 one)
    where
      one : (k : ℕ) → 0 ≤ k → k < 0 + 8 → good_slot (version_of w d) (slot_at w d k) k ≡ true
      one k _ b =
          let made = g.made in
          let e = h.version in
          slot-good (version_of w d) (slot_at w d k) k
          (λ l. h.unmade k (omega arith) (omega arith))
          (λ l. ap in_range (list-slot k (omega arith) (omega arith)) ∙ g.range _ (omega arith))
          (λ z l. list-slot k (omega arith) (omega arith) ∙
          (ap (λ (i : ℕ). get_or xs i blank) (let q : length xs - 1 - (length xs - 1 - k) % 8 ≡ 0 = omega arith in q)
          ∙ g.first))

module _ {s : State} {w : List ℕ} (g : Sound s) (h : Holds s w) where
  pub holds-valid : valid w ≡ true
  unfolding valid
  holds-valid =
      rw (le-leb 544 (length w) h.long)
      (every-all (good_department w) 32 0
      (λ d _ l. let x = g.each d l in list-good w d (versions s d) x (h.each d l)
      (omega (arith, (h.each d l).version, x.most))))

  pub kept_same : (d u : ℕ) → d < 32 → kept (current s d) u ≡ true → held_at w d u ≡ content_at s d u
  kept_same d u l k =
      let p = kept-parts (current s d) u k in
      let m = (g.each d l).made in
      (h.each d l).slot u (omega (arith, p)) (omega (arith, p))

ask-same : (b : Bool) (q : Unsettled) {x y : Answer} → (b ≡ true → x ≡ y) → ask b q x ≡ ask b q y
unfolding ask
ask-same true q h = h refl
ask-same false q h = refl

ask-yes : {b : Bool} (q : Unsettled) (x : Answer) → b ≡ true → ask b q x ≡ x
unfolding ask
ask-yes q x e = rw e

kept-now : (v : ℕ) → kept v v ≡ true
unfolding kept
kept-now v = rw (le-leb v v (omega arith), lt-ltb (v - v) 8 (omega arith))

module _ {s : State} {w : List ℕ} (g : Sound s) (h : Holds s w) (d : ℕ) where
  low : ltb d 32 ≡ true → d < 32
  low t = ltb-true d 32 t

  now-same : ltb d 32 ≡ true → version_of w d ≡ current s d
  now-same t = (h.each d (low t)).version

  pub read-agrees : read_words w d ≡ reading d (current s d) (content_at s d)
  unfolding read_words reading
  read-agrees =
      ask-yes NoStore _ (holds-valid g h)
      ∙ ask-same (ltb d 32) NoDepartment
      (λ t. ap (λ z. told z (held_at w d z)) (now-same t) ∙ ap (told (current s d))
      (kept_same g h d (current s d) (low t) (kept-now (current s d))))

  pub version-agrees : (u : ℕ) → read_version_words w d u ≡ reading_version d u (current s d) (content_at s d)
  unfolding read_version_words reading_version
  version-agrees u =
      ask-yes NoStore _ (holds-valid g h)
      ∙ ask-same (ltb d 32) NoDepartment
      (λ t. ap (λ z. ask (kept z u) NotKept (told u (held_at w d u))) (now-same t) ∙ ask-same (kept (current s d) u) NotKept
      (λ k. ap (told u) (kept_same g h d u (low t) k)))

  pub save-agrees : (from : ℕ) (c : Content) → save_words w d from c ≡ saving d from c (current s d)
  unfolding save_words saving
  save-agrees from c =
      ask-yes NoStore _ (holds-valid g h)
      ∙ ask-same (ltb d 32) NoDepartment
      (λ t. ap (λ z. ask (in_range c) OutOfRange (ask (eqb from z) Stale (ask (ltb z last_version) LastVersion (told (z + 1) c))))
      (now-same t))

  pub bring-agrees : (from u : ℕ) → bring_words w d from u ≡ bringing d from u (current s d) (content_at s d)
  unfolding bring_words bringing
  bring-agrees from u =
      ask-yes NoStore _ (holds-valid g h)
      ∙ ask-same (ltb d 32) NoDepartment
      (λ t.
      ap (λ z. ask (eqb from z) Stale (ask (kept z u) NotKept (ask (ltb z last_version) LastVersion (told (z + 1) (held_at w d u)))))
      (now-same t)
      ∙ ask-same (eqb from (current s d)) Stale
      (λ _. ask-same (kept (current s d) u) NotKept
      (λ k. ask-same (ltb (current s d) last_version) LastVersion
      (λ _. ap (told (current s d + 1)) (kept_same g h d u (low t) k)))))
