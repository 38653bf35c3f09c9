-- Lists put behind one another. Assumes nothing.
use Rattle.std.proofs.Common.{◌≡◌, ℕ, suc, ◌+◌, ◌-◌, ◌<◌, true, List, [], ◌∷◌, ◌++◌, length, get_or, is_ok, Bor, Ok, Err, Result, sym, refl, ap, ◌∙◌, subst, arith}
use Rattle.hir.specs.declared.span.Span.{Span}
use Rattle.image.specs.declared.fault.ByteFault.{ByteFault}
use Rattle.image.specs.Bytes.{Place}
use Rattle.image.specs.Steps.{and_then, ended, numbers_at}
use Rattle.image_check.specs.Steps.{lists_end}
use Rattle.image_check.proofs.Lists.{lists_next}
use Rattle.image_tables.specs.Tables.{AddedList, AddedLists, AddedScope, AddedFunction, AddedPanel}

-- one list more
pub added_more : (before : List ℕ) (p : Place) (ss : List Span) (q : Place) (middle : List ℕ) (s : Span) (r : Place) (after : List ℕ) → AddedLists before p ss q middle → AddedList middle q s r after → AddedLists before p (ss ++ (s ∷ [])) r after
added_more before p [] q middle s r after h a = (r, after, subst (λ t. AddedList t p s r after) (sym h.1) (subst (λ t. AddedList middle t s r after) (sym h.0) a), (refl, refl))
added_more before p (x ∷ ss) q middle s r after h a = (h.0, h.1, h.2, added_more h.1 h.0 ss q middle s r after h.3 a)

first_of : (n : ℕ) (r : Result (List ℕ × Place) ByteFault) → is_ok (and_then (ended r) (lists_end n)) ≡ true → is_ok r ≡ true
first_of n (Ok v) k = refl
first_of n (Err f) k = k

-- the next list reads, and then the others
pub next_reads : (n i : ℕ) (p : Place) → i < n → is_ok (lists_end (n - i) p) ≡ true → is_ok (numbers_at p) ≡ true
next_reads n i p lt ok =
    let more : n - i ≡ suc (n - (i + 1)) = omega arith in
    first_of (n - (i + 1)) (numbers_at p) (sym (ap (λ k. is_ok (lists_end k p)) more) ∙ ok)

pub others_read : (n i : ℕ) (p q : Place) (x : List ℕ) → i < n → is_ok (lists_end (n - i) p) ≡ true → numbers_at p ≡ Ok (x, q) → is_ok (lists_end (n - (i + 1)) q) ≡ true
others_read n i p q x lt ok e = sym (ap is_ok (lists_next n i p q x lt e)) ∙ ok

-- a span of an array before it is set
abbrev pub zero_span : Span
zero_span = record { start = 0; count = 0 }

-- three lists are a scope's, two a function's, one a panel's
pub scope_added : (before bs : List ℕ) (ss : List Span) (q : Place) (after : List ℕ) (d : Span) → length ss ≡ 3 → AddedLists before (0, bs) ss q after → AddedScope before bs (record { dependencies = get_or ss 0 d; declarations = get_or ss 1 d; reassignments = get_or ss 2 d }) after
scope_added before bs [] q after d size h = absurd (omega arith)
scope_added before bs (a ∷ []) q after d size h = absurd (omega arith)
scope_added before bs (a ∷ (b ∷ [])) q after d size h = absurd (omega arith)
scope_added before bs (a ∷ (b ∷ (c ∷ []))) q after d size h = record {
  q1 = h.0;
  q2 = h.3.0;
  q3 = h.3.3.0;
  one = h.1;
  two = h.3.1;
  first = h.2;
  second = h.3.2;
  third = subst (AddedList h.3.1 h.3.0 c h.3.3.0) h.3.3.3.1 h.3.3.2;
}
scope_added before bs (a ∷ (b ∷ (c ∷ (e ∷ ss)))) q after d size h = absurd (omega arith)

pub function_added : (before bs : List ℕ) (ss : List Span) (q : Place) (after : List ℕ) (d : Span) → length ss ≡ 2 → AddedLists before (0, bs) ss q after → AddedFunction before bs (record { parameters = get_or ss 0 d; nested = get_or ss 1 d }) after
function_added before bs [] q after d size h = absurd (omega arith)
function_added before bs (a ∷ []) q after d size h = absurd (omega arith)
function_added before bs (a ∷ (b ∷ [])) q after d size h = record {
  q1 = h.0;
  q2 = h.3.0;
  one = h.1;
  first = h.2;
  second = subst (AddedList h.1 h.0 b h.3.0) h.3.3.1 h.3.2;
}
function_added before bs (a ∷ (b ∷ (e ∷ ss))) q after d size h = absurd (omega arith)

pub panel_added : (before : List ℕ) (ss : List Span) (q : Place) (after : List ℕ) (d : Span) (content : Bor (List ℕ)) → length ss ≡ 1 → AddedLists before (0, content.now) ss q after → AddedPanel before content.now (record { parameters = get_or ss 0 d; content = content }) after
panel_added before [] q after d content size h = absurd (omega arith)
panel_added before (a ∷ []) q after d content size h = record { q = h.0; first = subst (AddedList before (0, content.now) a h.0) h.3.1 h.2; content = refl }
panel_added before (a ∷ (e ∷ ss)) q after d content size h = absurd (omega arith)
