use Rattle.core_laws.proofs.SerialRun.{reads_are_events, writes_are_events}
use Rattle.core_laws.proofs.next_job.next_jobs_are_events.Goals as goal

pub returns-clause-reads : goal.returns-clause-reads
returns-clause-reads c = reads_are_events

pub returns-clause-writes : goal.returns-clause-writes
returns-clause-writes c = writes_are_events
