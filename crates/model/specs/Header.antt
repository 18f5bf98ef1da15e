-- REFERENCE 1.1, 4.2. Document 01, 'What a polynomial is here': 0 to 4 variables, limits of 1 to 64, lengths of 1 to
-- the limit, at most 4,096 stored places; document 02, W10: a cap on the total degree.
-- Lists have four numbers, one to a variable; a missing variable has limit 1 and length 1 and stands at the end.
use Rattle.std.specs.Prelude.{ℕ, zero, suc, ◌*◌, min, List, Bool, ◌&&◌, ◌||◌, cond, ltb, leb, eqb}
use Rattle.lists.specs.Four.{at, four}
use Rattle.model.specs.declared.Header.{Header}
use Rattle.model.specs.Cap.{most_cap}

abbrev pub header : ℕ → List ℕ → List ℕ → ℕ → Header
header v l n c = record { vars = v; limits = l; lengths = n; cap = c }

-- the same variables, limits and cap, other lengths
abbrev pub with_lengths : Header → List ℕ → Header
with_lengths h n = header h.vars h.limits n h.cap

abbrev pub limit : Header → ℕ → ℕ
limit h k = at h.limits k

abbrev pub len : Header → ℕ → ℕ
len h k = at h.lengths k

-- how many places n variables from v on span: the product of their lengths, 1 for none
unfoldable pub span : List ℕ → ℕ → ℕ → ℕ
span l zero v = 1
span l (suc n) v = at l v * span l n (suc v)

-- the stored count
abbrev pub count : List ℕ → ℕ
count l = span l 4 0

abbrev pub stored : Header → ℕ
stored h = count h.lengths

-- of variable k among `vars`, the limit l and the length n: a missing one has limit 1
unfoldable pub good_var : ℕ → ℕ → ℕ → ℕ → Bool
good_var vars k l n = ((leb 1 n && leb n l) && leb l 64) && (ltb k vars || eqb l 1)

unfoldable pub good_vars : Header → Bool
good_vars h =
    (((leb h.vars 4 && good_var h.vars 0 (limit h 0) (len h 0)) && good_var h.vars 1 (limit h 1) (len h 1))
    && good_var h.vars 2 (limit h 2) (len h 2))
    && good_var h.vars 3 (limit h 3) (len h 3)

-- a header that keeps the rules
unfoldable pub good_header : Header → Bool
good_header h = (good_vars h && leb h.cap most_cap) && leb (stored h) 4096

abbrev pub ones : List ℕ
ones = four (λ k. 1)

-- Headers of the constructors (port order 2, and 'What must change shape'): no cap.

-- no variables
abbrev pub no_header : Header
no_header = header 0 ones ones 0

abbrev pub limit_or_one : ℕ → ℕ → ℕ → ℕ
limit_or_one vars k l = cond (ltb k vars) l 1

-- a constant that carries the first `vars` of the limits
unfoldable pub zero_with : ℕ → List ℕ → Header
zero_with vars l = header vars (four (λ k. limit_or_one vars k (at l k))) ones 0

abbrev pub two_at_most : ℕ → ℕ → ℕ → ℕ
two_at_most v k l = cond (eqb k v) (min 2 l) 1

-- x + v: length min(2, limit) in v
unfoldable pub var_with : ℕ → ℕ → List ℕ → Header
var_with v vars l = with_lengths (zero_with vars l) (four (λ k. two_at_most v k (limit (zero_with vars l) k)))
