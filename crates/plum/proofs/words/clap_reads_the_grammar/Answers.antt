use Rattle.plum.proofs.Accepted.{grammar_is_read}
use Rattle.plum.proofs.words.clap_reads_the_grammar.Goals as goal

pub returns : goal.returns
returns c = grammar_is_read
