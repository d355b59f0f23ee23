use Rattle.std.proofs.Common.{Ok, Err, sym}
use Rattle.std.proofs.lemmas.Result.{err_from_is_err_and}
use Rattle.kn_head.specs.declared.head.Head.{Head}
use Rattle.kn_head.specs.Reading.{Reads}
use Rattle.kn_head.proofs.Drawing.{draws_more}
use Rattle.kn_head.proofs.Whole.{from_start, without_owner, without_form, without_body, with_all}
use Rattle.kn_head.proofs.read.read_head.Goals as goal

pub returns-in_err-parts-clause-reads : goal.returns-in_err-parts-clause-reads
returns-in_err-parts-clause-reads g c =
    let p = err_from_is_err_and c.from_residual.result c.from_residual.ensures.1 in
    rw (p.1, p.2)
    (from_start _ _ (λ bytes. Reads bytes (Err c.in_err-parts.field-0.0)) c.new-window.ensures c.in_err-parts.ensures.fails)

pub returns-in_err-namespace-clause-reads : goal.returns-in_err-namespace-clause-reads
returns-in_err-namespace-clause-reads g c =
    let p = err_from_is_err_and c.from_residual-in_err-namespace.result c.from_residual-in_err-namespace.ensures.1 in
    rw (p.1, p.2)
    (from_start _ _ (λ bytes. Reads bytes (Err c.in_err-namespace.field-0.0)) c.new-window.ensures
    (without_owner _ _ _ _ _ c.in_ok-parts.parts.headers c.in_err-namespace.field-0.0 c.in_ok-parts.ensures.parts c.in_err-namespace.ensures))

pub returns-in_err-form-clause-reads : goal.returns-in_err-form-clause-reads
returns-in_err-form-clause-reads g c =
    let p = err_from_is_err_and c.from_residual-in_err-form.result c.from_residual-in_err-form.ensures.1 in
    rw (p.1, p.2)
    (from_start _ _ (λ bytes. Reads bytes (Err c.in_err-form.field-0.0)) c.new-window.ensures
    (without_form _ _ _ _ _ c.in_ok-parts.parts.headers (c.in_ok-namespace.namespace, c.in_ok-namespace.revision) c.in_err-form.field-0.0 c.in_ok-parts.ensures.parts c.in_ok-namespace.ensures
    (sym c.in_err-form.ensures)))

pub returns-in_err-body-clause-reads : goal.returns-in_err-body-clause-reads
returns-in_err-body-clause-reads g c =
    let p = err_from_is_err_and c.from_residual-in_err-body.result c.from_residual-in_err-body.ensures.1 in
    rw (p.1, p.2)
    (from_start _ _ (λ bytes. Reads bytes (Err c.in_err-body.field-0.0)) c.new-window.ensures
    (without_body _ _ _ _ _ c.in_ok-parts.parts.headers (c.in_ok-namespace.namespace, c.in_ok-namespace.revision) c.in_err-body.field-0.0 c.in_ok-form.form c.in_ok-parts.ensures.parts
    c.in_ok-namespace.ensures (sym c.in_ok-form.ensures) c.in_err-body.ensures.fails))

pub returns-in_err-body-clause-front : goal.returns-in_err-body-clause-front
returns-in_err-body-clause-front g c = (draws_more c.read_parts.ensures.source c.read_body.ensures.source).front

pub returns-clause-front : goal.returns-clause-front
returns-clause-front g c = (draws_more c.read_parts.ensures.source c.read_body.ensures.source).front

pub returns-clause-reads : goal.returns-clause-reads
returns-clause-reads g c =
    let head : Head = record {
      method = c.in_ok-parts.parts.method;
      target = c.in_ok-parts.parts.target;
      minor = c.in_ok-parts.parts.minor;
      headers = c.in_ok-parts.parts.headers;
      namespace = c.in_ok-namespace.namespace;
      revision = c.in_ok-namespace.revision;
      body = c.in_ok-body.body;
      chunked = c.is_chunked-chunked.result;
    } in
    from_start _ _ (λ bytes. Reads bytes (Ok head)) c.new-window.ensures
    (with_all _ _ head c.in_ok-form.form c.in_ok-parts.ensures.parts c.in_ok-namespace.ensures (sym c.in_ok-form.ensures)
    c.is_chunked-chunked.ensures c.in_ok-body.ensures.body)
