use Rattle.problem_text.specs.File.{IsFile}
use Rattle.report_reader.proofs.FitsLaws.{read-fits}
use Rattle.report_reader.proofs.reader.tells_fitting.Goals as goal

pub returns : goal.returns
returns c report read =
    let file : IsFile c.args.file.now = rw (← c.file.view_is) c.file.invariant in
    read-fits c.args.bytes.now c.args.file.now report file read
