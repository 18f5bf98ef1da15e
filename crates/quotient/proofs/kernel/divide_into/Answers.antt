use Rattle.quotient.specs.Into.{left-lengths, right-lengths, into-two, into-recur, same_count, into_loaded}
use borrow.Author.Rules.{rules}
use Rattle.quotient.proofs.kernel.divide_into.Goals as goal

pub load_two-requires : goal.load_two-requires
load_two-requires c =
    into-two c.requires c.cut_to-ca.ensures
    c.cut_to-cb.ensures

pub count_of-na-requires : goal.count_of-na-requires
count_of-na-requires c =
    left-lengths c.requires c.cut_to-ca.ensures c.cut_to-cb.ensures

pub count_of-nb-requires : goal.count_of-nb-requires
count_of-nb-requires c =
    right-lengths c.requires c.cut_to-ca.ensures
    c.cut_to-cb.ensures

pub divide_loaded-requires : goal.divide_loaded-requires
divide_loaded-requires c =
    record {
      fact_1 = rw c.load_two.auto.work
          (into-recur c.requires c.cut_to-ca.ensures c.cut_to-cb.ensures c.count_of-na.ensures
          c.count_of-nb.ensures);
      fact_2 = same_count c.requires c.cut_to-ca.ensures c.cut_to-cb.ensures c.count_of-na.ensures c.count_of-nb.ensures;
    }

pub returns : goal.returns
returns c = record {
  out_after = into_loaded c.requires c.cut_to-ca.ensures c.cut_to-cb.ensures c.count_of-na.ensures
      c.count_of-nb.ensures c.args.a.now
      c.args.b.now c.load_two.new.work c.load_two.ensures
      c.load_two.auto.work c.divide_loaded.ensures.out_after;
  spent = search rules;
}
