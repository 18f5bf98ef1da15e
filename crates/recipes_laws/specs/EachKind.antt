-- What holds of every row of the table of kinds (Kinds.antt), and of the numbers past it, holds of every number: laws
-- of steps are tables of twelve rows.
use Rattle.std.specs.Prelude.{ℕ, zero, suc}

pub record EachKind (P : ℕ → Type 0) : Type 0 where
  -- constant n
  pub k0 : P 0
  -- negate
  pub k1 : P 1
  -- add, subtract, multiply, divide
  pub k2 : P 2
  pub k3 : P 3
  pub k4 : P 4
  pub k5 : P 5
  -- power
  pub k6 : P 6
  -- `derivative`, `taylor_expansion_of_coeff`, `shift_down`
  pub k7 : P 7
  pub k8 : P 8
  pub k9 : P 9
  -- `subst_var`
  pub k10 : P 10
  -- exp
  pub k11 : P 11
  -- no kind
  pub past : (k : ℕ) → P (suc (suc (suc (suc (suc (suc (suc (suc (suc (suc (suc (suc k))))))))))))

pub by_kind : {P : ℕ → Type 0} → EachKind P → (k : ℕ) → P k
by_kind r zero = r.k0
by_kind r (suc zero) = r.k1
by_kind r (suc (suc zero)) = r.k2
by_kind r (suc (suc (suc zero))) = r.k3
by_kind r (suc (suc (suc (suc zero)))) = r.k4
by_kind r (suc (suc (suc (suc (suc zero))))) = r.k5
by_kind r (suc (suc (suc (suc (suc (suc zero)))))) = r.k6
by_kind r (suc (suc (suc (suc (suc (suc (suc zero))))))) = r.k7
by_kind r (suc (suc (suc (suc (suc (suc (suc (suc zero)))))))) = r.k8
by_kind r (suc (suc (suc (suc (suc (suc (suc (suc (suc zero))))))))) = r.k9
by_kind r (suc (suc (suc (suc (suc (suc (suc (suc (suc (suc zero)))))))))) = r.k10
by_kind r (suc (suc (suc (suc (suc (suc (suc (suc (suc (suc (suc zero))))))))))) = r.k11
by_kind r (suc (suc (suc (suc (suc (suc (suc (suc (suc (suc (suc (suc k)))))))))))) = r.past k
