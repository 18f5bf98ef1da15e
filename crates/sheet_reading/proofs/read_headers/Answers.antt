use mathlib.Core.Path.{ap}
use Rattle.model.specs.declared.Refusal.{Refusal}
use native.Mathlib.Omega.{arith}
use Rattle.sheet_reading.specs.Headers.{headers-none, headers_len, headers_8, headers_1, headers-more, headers_end}
use Rattle.sheet_reading.proofs.read_headers.Goals as goal

pub loop-i-init : goal.loop-i-init
loop-i-init c = headers-none _ _

pub overflow_mul-at : goal.overflow_mul-at
overflow_mul-at c = omega (arith, headers_len c.loop-i.invariant)

pub is_line-requires : goal.is_line-requires
is_line-requires c = omega (arith, headers_len c.loop-i.invariant)

pub shape_of-headers-then-not-is_line : goal.shape_of-headers-then-not-is_line
shape_of-headers-then-not-is_line c = headers_len c.loop-i.invariant

pub returns-then-not-is_line : goal.returns-then-not-is_line
returns-then-not-is_line c =
    record {
      some = λ z. omega (arith, ap (λ (r : Refusal). r.number) c.by.ensures, z);
      holds = rw c.by.ensures (headers_8 c.loop-i.invariant (omega (arith, headers_len c.loop-i.invariant))
          c.is_line.ensures c.if-not-is_line.true);
    }

pub word_at-word-requires : goal.word_at-word-requires
word_at-word-requires c = omega (arith, headers_len c.loop-i.invariant)

pub overflow_cast-i : goal.overflow_cast-i
overflow_cast-i c = record { fits = omega (arith, headers_len c.loop-i.invariant) }

pub shape_of-headers-then-not-is_good : goal.shape_of-headers-then-not-is_good
shape_of-headers-then-not-is_good c = headers_len c.loop-i.invariant

pub returns-then-not-is_good : goal.returns-then-not-is_good
returns-then-not-is_good c =
    record {
      some = λ z. omega (arith, ap (λ (r : Refusal). r.number) c.bad_word.ensures, z);
      holds = rw c.bad_word.ensures (headers_1 c.loop-i.invariant (omega (arith, headers_len c.loop-i.invariant))
          c.is_line.ensures
          c.if-not-is_line.false c.word_at-word.ensures
          c.is_good.ensures c.if-not-is_good.true);
    }

pub loop-i-preserved : goal.loop-i-preserved
loop-i-preserved c =
    headers-more c.loop-i.invariant (omega (arith, headers_len c.loop-i.invariant))
    c.is_line.ensures c.if-not-is_line.false
    c.word_at-word.ensures c.is_good.ensures c.if-not-is_good.false

pub shape_of-headers : goal.shape_of-headers
shape_of-headers c = headers_len c.loop-i.invariant

pub returns : goal.returns
returns c = (headers_end c.loop-i.invariant (omega (arith, headers_len c.loop-i.invariant)))
