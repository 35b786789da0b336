-- Where no source is missing the packets are the sources. Assumes nothing.
use native.Mathlib.Omega.{arith}
use Rattle.whole_log.proofs.StageLaws.{alone_by_marks}
use Rattle.whole_log.proofs.log_decoded.Goals as goal

pub log_of_sources-requires-clause-sources_alone : goal.log_of_sources-requires-clause-sources_alone
log_of_sources-requires-clause-sources_alone c =
    let L = c.list_missing-missing in
    alone_by_marks c.args.desk.now L.result.columns L.result.count c.requires.ready c.requires.marks_value L.ensures (omega arith)
