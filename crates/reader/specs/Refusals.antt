-- The numbers of the errors are in the table of refusals (01, "Refusal numbers"), and none of them gives a need.
-- Assumes nothing.
use Rattle.std.proofs.Common.{arith}
use Rattle.std.specs.Prelude.{refl}
use Rattle.refusal.specs.Refusal.{InTable}
use Rattle.reader.specs.declared.error.SetupError.{SetupError}
use Rattle.reader.specs.declared.error.StateError.{StateError}
use Rattle.reader.specs.declared.error.ReportError.{ReportError}
use Rattle.reader.specs.declared.error.ReportError.TheVariants as report
use Rattle.reader.specs.declared.error.SeekError.{SeekError}
use Rattle.reader.specs.declared.error.SeekError.TheVariants as seek
use Rattle.reader.specs.declared.error.RecordError.{RecordError}
use Rattle.reader.specs.declared.error.RecordError.TheVariants as record_
use Rattle.reader.specs.Calls.{number_of_setup, number_of_report, number_of_seek, number_of_state, number_of_record}

pub setup_in_table : (e : SetupError) → InTable (number_of_setup e) 0
setup_in_table e = (omega arith, omega arith, λ n. refl)

pub state_in_table : (e : StateError) → InTable (number_of_state e) 0
state_in_table e = (omega arith, omega arith, λ n. refl)

pub report_in_table : (e : ReportError) → InTable (number_of_report e) 0
report_in_table report.Count = (omega arith, omega arith, λ n. refl)
report_in_table report.State = state_in_table (record {})

pub seek_in_table : (e : SeekError) → InTable (number_of_seek e) 0
seek_in_table seek.Place = (omega arith, omega arith, λ n. refl)
seek_in_table seek.State = state_in_table (record {})

pub record_in_table : (e : RecordError) → InTable (number_of_record e) 0
record_in_table record_.NoRecord = (omega arith, omega arith, λ n. refl)
record_in_table record_.State = state_in_table (record {})
