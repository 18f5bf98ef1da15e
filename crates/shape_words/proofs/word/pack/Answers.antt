use Rattle.shape_words.specs.Words.{step, fields-lt}
use Prim.Native.Nat.{ℕ, ◌+◌, ◌*◌, ◌^◌, ◌%◌, ◌<◌}
use mathlib.Core.Path.{◌≡◌, ap, ◌∙◌}
use lib.Pow.{shl_exact}
use native.Mathlib.Omega.{arith}
use Rattle.model.specs.Word.{fields, word_of}
use borrow.Author.Rules.{rules}
use Rattle.shape_words.proofs.word.pack.Goals as goal

pub push-w4-requires : goal.push-w4-requires
push-w4-requires c =
    let s0 : c.args.h.vars < 8 = omega (arith, c.requires.few) in
    let s1 = step 8 c.push.ensures s0 (omega (arith, c.requires.v0)) c.requires.v0.most in
    let s2 = step (2 ^ 9) c.push-w1.ensures s1 c.requires.v0.pos (omega (arith, c.requires.v0)) in
    let s3 = step (2 ^ 15) c.push-2.ensures s2 (omega (arith, c.requires.v1)) c.requires.v1.most in
    let s4 = step (2 ^ 21) c.push-w2.ensures s3 c.requires.v1.pos (omega (arith, c.requires.v1)) in
    let s5 = step (2 ^ 27) c.push-3.ensures s4 (omega (arith, c.requires.v2)) c.requires.v2.most in
    let s6 = step (2 ^ 33) c.push-w3.ensures s5 c.requires.v2.pos (omega (arith, c.requires.v2)) in
    let s7 = step (2 ^ 39) c.push-4.ensures s6 (omega (arith, c.requires.v3)) c.requires.v3.most in
    (omega (arith, s7), (c.requires.v3.pos, omega (arith, c.requires.v3)))

pub push_cap-requires : goal.push_cap-requires
unfolding fields
push_cap-requires c =
    let packed : c.push-w4.result ≡ fields c.args.h =
    simp (
      c.push-w4.ensures,
      c.push-4.ensures,
      c.push-w3.ensures,
      c.push-3.ensures,
      c.push-w2.ensures,
      c.push-2.ensures,
      c.push-w1.ensures,
      c.push.ensures,
    ) in
    (rw (packed) (fields-lt _ c.requires), omega (arith, c.requires.low))

pub returns : goal.returns
unfolding word_of fields
returns c =
    let packed : c.push-w4.result ≡ fields c.args.h =
    simp (
      c.push-w4.ensures,
      c.push-4.ensures,
      c.push-w3.ensures,
      c.push-3.ensures,
      c.push-w2.ensures,
      c.push-2.ensures,
      c.push-w1.ensures,
      c.push.ensures,
    ) in
    let h = c.args.h in
    let e : c.push_cap.result ≡ fields h * 2 ^ 8 + h.cap = c.push_cap.ensures ∙ ap (λ (n : ℕ). n * 2 ^ 8 + h.cap) (packed) in
    ap (λ (n : ℕ). n * 2 ^ 5 % 2 ^ 64) e ∙ shl_exact 59 5 64 (omega (arith, fields-lt h c.requires, c.requires.low)) (search rules)
