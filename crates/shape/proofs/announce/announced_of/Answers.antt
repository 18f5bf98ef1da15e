use Rattle.model.specs.Announced.{announced}
use Rattle.shape.proofs.announce.announced_of.Goals as goal

pub returns-in-Constant : goal.returns-in-Constant
unfolding announced
returns-in-Constant c = rw c.in-Constant.is c.none.ensures

pub returns-in-Same : goal.returns-in-Same
unfolding announced
returns-in-Same c = rw c.in-Same.is (rw c.in-Same.is at c.single_header.ensures)

pub returns-in-Sum : goal.returns-in-Sum
unfolding announced
returns-in-Sum c = rw c.in-Sum.is (rw c.in-Sum.is at c.paired_header.ensures)

pub returns-in-Product : goal.returns-in-Product
unfolding announced
returns-in-Product c = rw c.in-Product.is (rw c.in-Product.is at c.paired_header-in-Product.ensures)

pub returns-in-Quotient : goal.returns-in-Quotient
unfolding announced
returns-in-Quotient c = rw c.in-Quotient.is (rw c.in-Quotient.is at c.paired_header-in-Quotient.ensures)

pub returns-in-Series : goal.returns-in-Series
unfolding announced
returns-in-Series c = rw c.in-Series.is (rw c.in-Series.is at c.single_header-in-Series.ensures)

pub returns-in-Power : goal.returns-in-Power
unfolding announced
returns-in-Power c = rw c.in-Power.is c.power_header.ensures

pub returns-in-Shift : goal.returns-in-Shift
unfolding announced
returns-in-Shift c = rw c.in-Shift.is (rw c.in-Shift.is at c.single_header-in-Shift.ensures)

pub returns-in-Substitution : goal.returns-in-Substitution
unfolding announced
returns-in-Substitution c = rw c.in-Substitution.is c.substitution_header.ensures

pub returns-in-Term : goal.returns-in-Term
unfolding announced
returns-in-Term c = rw c.in-Term.is (rw c.in-Term.is at c.single_header-in-Term.ensures)

pub returns-in-Order : goal.returns-in-Order
unfolding announced
returns-in-Order c = rw c.in-Order.is (rw c.in-Order.is at c.single_header-in-Order.ensures)

pub returns-in-One : goal.returns-in-One
unfolding announced
returns-in-One c = rw c.in-One.is (rw c.in-One.is at c.single_header-in-One.ensures)
