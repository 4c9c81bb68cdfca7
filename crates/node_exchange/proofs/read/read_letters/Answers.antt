use Rattle.std.proofs.Common.{Err, ◌<◌, subst}
use Rattle.std.proofs.lemmas.Result.{IfOk-weaker}
use Rattle.wire_frames.specs.Reader.{Feeds}
use Rattle.node_exchange.proofs.ReadLaws.{not_long, no_rest, all_ready}
use Rattle.node_exchange.proofs.read.read_letters.Goals as goal

pub returns-in-Err-TooLong : goal.returns-in-Err-TooLong
returns-in-Err-TooLong c = λ ls good is.
    not_long ls c.args.bytes.now c.new-reader.result c.feed.new.self c.new-reader.ensures good is c.in-Err-TooLong.field-0-0
    (subst (λ f. Feeds c.new-reader.result c.args.bytes.now (Err f) c.feed.new.self) c.in-Err-TooLong.field-0-is c.in-Err-TooLong.ensures.fed)

pub returns-then-rest-gt0 : goal.returns-then-rest-gt0
returns-then-rest-gt0 c = λ ls good is.
    no_rest ls c.args.bytes.now c.new-reader.result c.feed.new.self c.new-reader.ensures good is c.in-Ok.ensures.fed (subst (λ n. 0 < n) c.rest.ensures c.if-rest-gt0.true)

pub returns : goal.returns
returns c = IfOk-weaker c.open_all.result _ _ (λ o h ls good is. h ls good (all_ready ls c.args.bytes.now c.new-reader.result c.feed.new.self c.new-reader.ensures good is c.in-Ok.ensures.fed)) c.open_all.ensures
