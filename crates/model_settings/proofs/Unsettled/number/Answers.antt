use Rattle.model_settings.specs.Store.{number}
use Rattle.model_settings.proofs.Unsettled.number.Goals as goal

pub returns-in-NoDepartment : goal.returns-in-NoDepartment
unfolding number
returns-in-NoDepartment c = rw c.in-NoDepartment.is

pub returns-in-OutOfRange : goal.returns-in-OutOfRange
unfolding number
returns-in-OutOfRange c = rw c.in-OutOfRange.is

pub returns-in-Stale : goal.returns-in-Stale
unfolding number
returns-in-Stale c = rw c.in-Stale.is

pub returns-in-NotKept : goal.returns-in-NotKept
unfolding number
returns-in-NotKept c = rw c.in-NotKept.is

pub returns-in-LastVersion : goal.returns-in-LastVersion
unfolding number
returns-in-LastVersion c = rw c.in-LastVersion.is

pub returns-in-NoStore : goal.returns-in-NoStore
unfolding number
returns-in-NoStore c = rw c.in-NoStore.is
