-- REFERENCE 1.2, 3.2. Polynomials as values: a header and the list of its stored coefficients (document 01, 'What a
-- polynomial is here').
-- A block is what an operation computes with once its limits are settled: lengths and stored places.
use Rattle.std.specs.Prelude.{ℕ, List, cond, get_or, take, Float}
use Rattle.std.specs.Float.{nan}
use Rattle.lists.specs.Table.{table}
use Rattle.model.specs.declared.Header.{Header}
use Rattle.model.specs.Header.{count, stored, with_lengths}
use Rattle.model.specs.Word.{header_of}
use Rattle.model.specs.Places.{place, index, inside}
use Rattle.model.specs.Limits.{cut_to}
use Rattle.model.specs.Refusals.{zero_f}

pub record Poly : Type 0 where
  pub head : Header
  pub coeffs : List Float

abbrev pub poly : Header → List Float → Poly
poly h a = record { head = h; coeffs = a }

pub record Block : Type 0 where
  pub lengths : List ℕ
  pub places : List Float

abbrev pub block : List ℕ → List Float → Block
block n a = record { lengths = n; places = a }

abbrev pub block_of : Poly → Block
block_of p = block p.head.lengths p.coeffs

-- a block among the variables and under the limits of a header
abbrev pub poly_of : Header → Block → Poly
poly_of h b = poly (with_lengths h b.lengths) b.places

-- what a header word and a buffer hold
abbrev pub held : ℕ → List Float → Poly
held w a = poly (header_of w) (take (stored (header_of w)) a)

-- what a block stores at an index
abbrev pub read_at : Block → List ℕ → Float
read_at b i = get_or b.places (place b.lengths i) nan

-- the coefficient at an index: zero past a stored length
unfoldable pub coefficient_at : Block → List ℕ → Float
coefficient_at b i = cond (inside b.lengths i) (read_at b i) zero_f

-- a block cut to the limits l: the places inside, and nothing else, are kept
unfoldable pub cut : List ℕ → Block → Block
cut l b =
    let n = cut_to l b.lengths in
    block n (table (count n) (λ k. read_at b (index n k)))
