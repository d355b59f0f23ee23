-- Bytes that are no text are no name, whatever their case.
use Rattle.std.proofs.Common.{sym, subst}
use Rattle.std.proofs.lemmas.Bool.{false_from_ne_true}
use Rattle.std.proofs.lemmas.Slice.Eq.{bytes_eq-Decides}
use Rattle.http_header.specs.FieldName.{IsFieldName}
use Rattle.http_header.proofs.TokenLemmas.{IsHeaderName-from_test, IsFieldName-from_lowercase, IsUtf8-from_token}
use Rattle.kn_http.proofs.names.is_same_name.Goals as goal

pub returns-in-Err : goal.returns-in-Err
returns-in-Err c =
    sym (false_from_ne_true _ (λ same.
    let known = (IsHeaderName-from_test _ c.requires).0 in
    let name = IsFieldName-from_lowercase c.args.name.now (subst IsFieldName (sym ((bytes_eq-Decides _ _).0 same)) known) in
    c.in-Err.ensures.cases.0 (IsUtf8-from_token _ name.0)))
