-- Header words: unpacking a packed header gives it back, and packing an unpacked good word gives the word back.
use Prim.Native.Nat.{ℕ, ◌+◌, ◌-◌, ◌*◌, ◌/◌, ◌%◌, ◌^◌, ◌≤◌, ◌<◌}
use Rattle.std.specs.Prelude.{[], ◌∷◌, true, ◌≡◌, refl}
use Rattle.std.proofs.Common.{sym, ap, ◌∙◌, arith, leb-true, eqb-true, eq-eqb}
use Rattle.std.proofs.Math.Pow.{shr-shr, shl-shr}
use Rattle.model.specs.declared.Header.{Header}
use Rattle.model.specs.Header.{header, limit, len}
use Rattle.model.specs.Word.{field_at, header_of, good_word, pushed, fields, word_of}
use Rattle.shape_words.specs.Rules.{Ruled, Regular, Good, header-good}
use Rattle.shape_words.specs.Sound.{good_word-is, word_sound, word_ruled}

-- a field more: how large a word can be
pub step : (k : ℕ) {r w x : ℕ} → r ≡ pushed w x → w < k → 1 ≤ x → x ≤ 64 → r < k * 64
step k e a p q = omega arith

pub fields-lt : (h : Header) → Ruled h → fields h < 2 ^ 51
unfolding fields
fields-lt h g =
    let s0 : h.vars < 8 = omega arith in
    let s1 = step 8 refl s0 (omega (arith, g.v0)) g.v0.most in
    let s2 = step (2 ^ 9) refl s1 g.v0.pos (omega (arith, g.v0)) in
    let s3 = step (2 ^ 15) refl s2 (omega (arith, g.v1)) g.v1.most in
    let s4 = step (2 ^ 21) refl s3 g.v1.pos (omega (arith, g.v1)) in
    let s5 = step (2 ^ 27) refl s4 (omega (arith, g.v2)) g.v2.most in
    let s6 = step (2 ^ 33) refl s5 g.v2.pos (omega (arith, g.v2)) in
    let s7 = step (2 ^ 39) refl s6 (omega (arith, g.v3)) g.v3.most in
    step (2 ^ 45) refl s7 g.v3.pos (omega (arith, g.v3))

pub word_fits : (h : Header) → Ruled h → word_of h < 2 ^ 64
unfolding word_of
word_fits h g = omega (arith, fields-lt h g)

-- one field off the low end
down : (n j : ℕ) {w x : ℕ} → n / 2 ^ j ≡ pushed w x → 1 ≤ x → x ≤ 64 → (n / 2 ^ (j + 6) ≡ w) × (field_at n j + 1 ≡ x)
down n j {w} {x} e p q = (rw (← shr-shr n j 6, e) (omega arith), rw e (omega arith))

-- one field on at the low end
up : (n j : ℕ) → pushed (n / 2 ^ (j + 6)) (field_at n j + 1) ≡ n / 2 ^ j
up n j = rw (← shr-shr n j 6) (omega arith)

module _ (v l0 n0 l1 n1 l2 n2 l3 n3 c : ℕ) where
  abbrev spelt : Header
  spelt = header v (l0 ∷ l1 ∷ l2 ∷ l3 ∷ []) (n0 ∷ n1 ∷ n2 ∷ n3 ∷ []) c

  spelt_back : Ruled spelt → header_of (word_of spelt) ≡ spelt
  unfolding header_of word_of fields
  spelt_back g =
      let n : ℕ = word_of spelt in
      let w : n / 2 ^ 5 ≡ fields spelt * 2 ^ 8 + c = shl-shr (fields spelt * 2 ^ 8 + c) 5 in
      let f : n / 2 ^ 13 ≡ fields spelt = rw (← shr-shr n 5 8, w) (omega (arith, g.low)) in
      let d : n / 2 ^ 5 % 2 ^ 8 ≡ c = rw w (omega (arith, g.low)) in
      let s3 = down n 13 f g.v3.pos (omega (arith, g.v3)) in
      let t3 = down n 19 s3.0 (omega (arith, g.v3)) g.v3.most in
      let s2 = down n 25 t3.0 g.v2.pos (omega (arith, g.v2)) in
      let t2 = down n 31 s2.0 (omega (arith, g.v2)) g.v2.most in
      let s1 = down n 37 t2.0 g.v1.pos (omega (arith, g.v1)) in
      let t1 = down n 43 s1.0 (omega (arith, g.v1)) g.v1.most in
      let s0 = down n 49 t1.0 g.v0.pos (omega (arith, g.v0)) in
      let t0 = down n 55 s0.0 (omega (arith, g.v0)) g.v0.most in
      let e : n / 2 ^ 61 % 2 ^ 3 ≡ v = rw t0.0 (omega (arith, g.few)) in
      simp (e, t0.1, s0.1, t1.1, s1.1, t2.1, s2.1, t3.1, s3.1, d)

-- unpack after pack
pub unpack-pack : (h : Header) → Regular h → header_of (word_of h) ≡ h
unpack-pack h r =
    let g = r.rules in
    let t = spelt h.vars (limit h 0) (len h 0) (limit h 1) (len h 1) (limit h 2) (len h 2) (limit h 3) (len h 3) h.cap in
    let e : h ≡ t = λ i. record { vars = h.vars; limits = r.ls i; lengths = r.ns i; cap = h.cap } in
    let k : Ruled t = record { few = g.few; v0 = g.v0; v1 = g.v1; v2 = g.v2; v3 = g.v3; low = g.low } in
    ap (λ (x : Header). header_of (word_of x)) e
    ∙ (spelt_back h.vars (limit h 0) (len h 0) (limit h 1) (len h 1) (limit h 2) (len h 2) (limit h 3) (len h 3) h.cap k ∙ sym e)

-- a word's spare bits are zero
spare : (h : Header) → word_of h % 2 ^ 5 ≡ 0
unfolding word_of
spare h = omega arith

pub packed-good : (h : Header) → Good h → good_word (word_of h) ≡ true
packed-good h g =
    rw (good_word-is (word_of h)) (simp (unpack-pack h g.regular, header-good g.regular.rules g.most, eq-eqb _ _ (spare h)))

-- what a good word's header keeps
pub good_word_lem : (w : ℕ) → good_word w ≡ true → Good (header_of w)
unfolding header_of
good_word_lem w g = record { regular = record { rules = word_ruled w g; ls = refl; ns = refl }; most = leb-true _ _ (word_sound w g).most }

-- pack after unpack
pub pack_unpack : (w : ℕ) → w < 2 ^ 64 → good_word w ≡ true → word_of (header_of w) ≡ w
unfolding header_of word_of fields
pack_unpack w fit g =
    let z : w % 2 ^ 5 ≡ 0 = eqb-true _ _ (word_sound w g).spare in
    let e : w / 2 ^ 61 % 2 ^ 3 ≡ w / 2 ^ 61 = omega arith in
    let d : fields (header_of w) ≡ w / 2 ^ 13 = simp (e, up w 55, up w 49, up w 43, up w 37, up w 31, up w 25, up w 19, up w 13) in
    ap (λ (n : ℕ). (n * 2 ^ 8 + w / 2 ^ 5 % 2 ^ 8) * 2 ^ 5) d ∙ omega (arith, z, shr-shr w 5 8)
