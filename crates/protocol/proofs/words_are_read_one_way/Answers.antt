use Rattle.protocol.proofs.words_are_read_one_way.Goals as goal
use Rattle.protocol.proofs.Reading.{read_is, written_hello, written_reply, written_end}
use Rattle.protocol.proofs.Apart.{words_apart}

pub returns : goal.returns
returns c = record { as_written = read_is; hello_back = written_hello; reply_back = written_reply; end_back = written_end; apart = words_apart }
