use Rattle.std.proofs.Common.{Some, ap}
use Rattle.szs_read.proofs.Advances.{word_form}
use Rattle.szs_read.proofs.Tokens.{word_readable}
use Rattle.szs_read.proofs.token.form_of.Goals as goal

pub returns-in-LowerWord : goal.returns-in-LowerWord
returns-in-LowerWord c = record {
  readable = word_readable c.args.kind c.in-LowerWord.is;
  same = λ label h. ap (λ f. Some f) (word_form c.args.kind label.form label.text c.in-LowerWord.is h);
}
