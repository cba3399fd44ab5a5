use Rattle.rapid_endpoint.proofs.Spellings.{read_is_printed, printed_is_read}
use Rattle.rapid_endpoint.proofs.endpoint_text.endpoints_have_one_spelling.Goals as goal

pub returns-clause-printed : goal.returns-clause-printed
returns-clause-printed c = printed_is_read

pub returns-clause-read : goal.returns-clause-read
returns-clause-read c = read_is_printed
