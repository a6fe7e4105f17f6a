-- A request as the code hands it on.
use Rattle.std.specs.Prelude.{ℕ, cond}
use Rattle.types.specs.declared.Answer.{Answer}
use Rattle.phases.specs.Phases.{Request}
use Rattle.trace_messages.specs.Trace.{is_request}
use Rattle.trace_setups.specs.declared.Asked.{Asked}

abbrev pub asked_of : Request → Asked
asked_of q = record { mark = q.mark; id = q.id }

abbrev pub asked_by : ℕ → Answer → Asked
asked_by case a = cond (is_request case a) (record { mark = 1; id = a.value.front.id }) (record { mark = 0; id = 0 })
