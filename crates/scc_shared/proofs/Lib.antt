mod Copying
mod IndexJoined
mod IndexReplies
mod Missing
