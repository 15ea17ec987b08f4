pub mod WorkerPool
