use Rattle.std.proofs.Common.{◌≡◌, length, sym, subst, ◌∙◌}
use Rattle.std.specs.List.{AllByRecursion}
use Rattle.store_model.specs.FromImages.{world_of}
use Rattle.page_image.specs.Pages.{IsPage}
use Rattle.transactions.specs.Standing.{TransactionsParts, page_images, IsReady}
use Rattle.transactions.proofs.FromPages.{from_pages}
use Rattle.transactions.proofs.transactions.Transactions.new.Goals as goal

pub returns-in-Ok : goal.returns-in-Ok
returns-in-Ok c = record {
  ready = λ commits.
      let are = subst (AllByRecursion IsPage) c.deref.ensures.value c.are_pages.ensures in
      let count : c.in_ok-locks.locks.pages ≡ length c.args.pages.items = c.in_ok-locks.ensures.pages ∙ (c.len.ensures ∙ c.args.pages.ok.0) in
      subst (λ (s : TransactionsParts). IsReady s (world_of commits (page_images c.args.pages.items)))
      (λ i. record { table = sym c.in_ok-table.ensures i; locks = c.in_ok-locks.locks; frames = sym c.in-Ok.ensures.ok i })
      (from_pages c.args.pages.items c.in_ok-locks.locks commits are c.requires.numbered c.requires.root c.requires.whole count c.in_ok-locks.ensures.empty);
}
