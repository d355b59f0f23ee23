use Rattle.kn_journal.proofs.Tellings.{lines-nil}
use Rattle.kn_journal.proofs.Texts.{ends-behind, ends-still, lines-behind, lines-ended, lines-own, text-more, whole-cut}
use Rattle.kn_journal.proofs.laws.text_laws.Goals as goal

pub returns : goal.returns
returns c = record {
  laws =
      record {
        none = lines-nil;
        whole = whole-cut;
        ends = ends-behind;
        ends_still = ends-still;
        ended = lines-ended;
        behind = lines-behind;
        own = lines-own;
        more = text-more;
      };
}
