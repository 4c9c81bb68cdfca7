use Rattle.report_reader.proofs.FitsLaws.{result-fits}
use Rattle.report_reader.proofs.reader.read_report.Goals as goal

pub returns-clause-fits : goal.returns-clause-fits
returns-clause-fits c = result-fits c.args.bytes.now c.args.file.now c.read_lines.result c.read_lines.ensures c.tells_fitting.ensures
