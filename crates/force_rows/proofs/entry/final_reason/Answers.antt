-- `final_reason` meets its contract, kind by kind.
use Rattle.schedule.specs.Code.{settings_of}
use Rattle.reasons.specs.Code.{reason_of}
use Rattle.std.specs.Prelude.{option_map}
use Rattle.judge_entries.specs.Entry.{listed_of}
use Rattle.force_rows.proofs.EntryLaws.{final_target, final_direct}
use Rattle.force_rows.proofs.entry.final_reason.Goals as goal

pub returns-in-Some : goal.returns-in-Some
returns-in-Some c =
    λ p v. final_target (settings_of c.args.by.now.conf) c.args.by.now.required p (listed_of c.args.x.now) _ v (option_map reason_of c.indirect_reason.result) c.in-Some.role c.in-Some.is c.indirect_reason.ensures

pub returns-in-None : goal.returns-in-None
returns-in-None c =
    λ p v. final_direct (settings_of c.args.by.now.conf) c.args.by.now.required p (listed_of c.args.x.now) _ v (option_map reason_of c.direct_reason.result) c.in-None.is c.direct_reason.ensures
