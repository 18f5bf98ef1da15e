-- Two operands and what they announce; and how a call hands on what it opened.
use Rattle.std.specs.Prelude.{ℕ, ◌*◌, ◌≤◌, List, true, ◌≡◌, Float}
use Rattle.std.proofs.Common.{arith}
use Rattle.model.specs.declared.Header.{Header}
use Rattle.model.specs.declared.Family.{Family}
use Rattle.model.specs.Header.{stored}
use Rattle.model.specs.Announced.{announced}
use Rattle.model.specs.Poly.{held}
use Rattle.shape_words.specs.Rules.{Good}
use Rattle.gates.specs.declared.Opened.{Opened}
use Rattle.gates.specs.Open.{PairOpen, told-by, opened-ready, opened-fits}
use Rattle.shape_operands.specs.declared.Operand.{Operand}
use Rattle.shape_operands.specs.Lent.{Lent, given-aside}
use Rattle.shape_operands.specs.Operand.{taken, AsideAt}

-- x and y the operands' headers, h the announced one of an operation of the family f, n its count
pub record Announces (f : Family) (x y h : Header) (n : ℕ) : Type 0 where
  pub left : Good x
  pub right : Good y
  pub is : h ≡ announced f x y
  pub most : stored h ≤ 4096
  pub all : n ≡ stored h

-- an operand of a call: it is given, from its first place on
abbrev pub given : Header → ℕ → Operand
given x k = record { head = x; count = k; input = true; from = 0 }

-- w and u the words, m and l the coefficients given, n and s the places lent
module _ {f : Family} {w m u l n s : ℕ} {r : Opened} (o : PairOpen f w m u l n s r) where
  pub opened-announces : Announces f r.a r.b r.told r.n
  opened-announces =
      let t = o.tells in
      let g = opened-ready o in
      record { left = rw t.left g.good_a; right = rw t.right g.good_b; is = told-by f t; most = rw t.told g.announced.most; all = t.count }

  pub opened-left : {i mp : ℕ} → AsideAt (given r.a r.na) 0 i m mp
  opened-left = let e = o.tells.count_a in record { full = e; aside = given-aside (omega (arith, e, (opened-fits o).0)) }

  pub opened-right : {i mp : ℕ} → AsideAt (given r.b r.nb) 0 i l mp
  opened-right = let e = o.tells.count_b in record { full = e; aside = given-aside (omega (arith, e, (opened-fits o).1)) }

  pub opened-lent : {k : ℕ} → k ≡ 8 * r.n → Lent r.n 0 n k
  opened-lent e =
      let a = opened-announces in
      record { room = omega (arith, (opened-fits o).2); spare = omega (arith, e); small = omega (arith, a.all, a.most) }

  pub opened-held : (a before : List Float) → taken (given r.a r.na) a before ≡ held w a
  opened-held a before = rw o.tells.left

  pub opened-held-right : (b before : List Float) → taken (given r.b r.nb) b before ≡ held u b
  opened-held-right b before = rw o.tells.right
