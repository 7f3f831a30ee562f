-- Runs of bytes written one behind the other are one run.
-- Assumes nothing.
use Rattle.std.specs.Prelude.{ℕ, ◌+◌, ◌≤◌, ◌≡◌, refl, List, [], ◌∷◌, ◌++◌, length}
use Rattle.std.proofs.Common.{sym, ap, ◌∙◌, add-zero, arith, length-append, drop-drop}
use borrow.Rule.Slice.PartMut.{put_mid}
use Rattle.lists.specs.Lists.{put}
use Rattle.lists.specs.Put.{put-none, put-behind}
use Rattle.lists.specs.Rows.{length-put}
use Rattle.netlink_event.specs.Written.{bytes2, bytes4, Entry, written_all}
use Rattle.netlink_put.specs.declared.Writer.{Writer}

-- netlink's header, before the message's length is known
abbrev pub unset_header : (type flags sequence port : ℕ) → List ℕ
unset_header type flags sequence port = 0 ∷ 0 ∷ 0 ∷ 0 ∷ (bytes2 type ++ (bytes2 flags ++ (bytes4 sequence ++ bytes4 port)))

-- l became m: vs was written at the place at, and r is the place behind it
pub record Wrote (at : ℕ) (vs : List ℕ) (r : ℕ) (l m : List ℕ) : Type 0 where
  pub next : r ≡ at + length vs
  pub bytes : m ≡ put at vs l
  pub room : at + length vs ≤ length l

-- vs was written behind what stood in the same bytes
pub record Appends (t : Writer) (vs : List ℕ) (u : Writer) : Type 0 where
  pub same_bytes : u.out.ghost_name ≡ t.out.ghost_name
  pub as_many : length u.out.now ≡ length t.out.now
  pub wrote : Wrote t.len vs u.len t.out.now u.out.now

-- the attributes of a table that are there were written
pub record Adds (t : Writer) (es : List Entry) (u : Writer) : Type 0 where
  pub bytes : Appends t (written_all es) u

-- vs was put at the front of the same bytes
pub record Sets (t : Writer) (vs : List ℕ) (u : Writer) : Type 0 where
  pub same_bytes : u.out.ghost_name ≡ t.out.ghost_name
  pub as_many : length u.out.now ≡ length t.out.now
  pub as_far : u.len ≡ t.len
  pub front : u.out.now ≡ put 0 vs t.out.now

-- a part of the bytes that is set is a run put in them
pub in_part : {k : ℕ} {vs l ws : List ℕ} (at : ℕ) → ws ≡ vs → k ≡ length vs → at + length vs ≤ length l
    → Wrote at vs (at + length vs) l (put_mid at k l ws)
unfolding put
in_part at e f h = record { next = refl; bytes = rw (e, f, drop-drop); room = h }

-- ws is written behind vs
pub then : {at r s : ℕ} {vs ws l m n : List ℕ} → Wrote at vs r l m → Wrote r ws s m n → Wrote at (vs ++ ws) s l n
then {at} {r} {s} {vs} {ws} {l} {m} {n} a b =
    let long : length m ≡ length l = ap length a.bytes ∙ length-put at vs l a.room in
    let room : at + length vs + length ws ≤ length l = omega (arith, a.next, b.room) in
    record {
      next = rw length-append (omega (arith, a.next, b.next));
      bytes = b.bytes ∙ ap (λ (k : ℕ). put k ws m) a.next ∙ ap (λ (x : List ℕ). put (at + length vs) ws x) a.bytes
          ∙ put-behind at vs l a.room ws room;
      room = rw length-append (omega arith);
    }

infixl 10 ◌and_then◌
pub ◌and_then◌ : {t u v : Writer} {vs ws : List ℕ} → Appends t vs u → Appends u ws v → Appends t (vs ++ ws) v
a and_then b =
    record { same_bytes = b.same_bytes ∙ a.same_bytes; as_many = b.as_many ∙ a.as_many; wrote = then a.wrote b.wrote }

-- the same bytes in other words
pub same : {t u : Writer} {vs : List ℕ} (ws : List ℕ) → vs ≡ ws → Appends t vs u → Appends t ws u
same ws e a = rw e at a

-- nothing is written yet
pub nothing : (t : Writer) → Appends t [] t
nothing t =
    record {
      same_bytes = refl;
      as_many = refl;
      wrote = record { next = sym (add-zero t.len); bytes = put-none t.len t.out.now; room = rw add-zero t.within };
    }
